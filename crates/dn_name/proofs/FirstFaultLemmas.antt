-- The first fault of a name is one.
use Rattle.std.proofs.Common.{◌≡◌, ℕ, List, ◌∷◌, length, drop, refl, sym, ap, ap₂, arith, length-append}
use Rattle.dn_name.specs.FirstFault.{FirstFault, NoByte, NoLength, Passes, CutLabel, After, CutPointer, Forward, Behind}
use Rattle.dn_name.specs.Spelled.{target}
use Rattle.dn_name.specs.declared.error.NameFault.{NameFault}
use Rattle.dn_name.proofs.SpelledLemmas.{heads, same_front}

module _ (message : List ℕ) where
  empty : {at place byte : ℕ} {rest : List ℕ} → at ≡ place → length (drop at message) ≡ 0 → drop place message ≡ byte ∷ rest → ⊥
  empty e none is = omega (arith, none, ap length is, ap (λ k. length (drop k message)) e)

  -- by the cases of both; a case meets another where the bytes, the size or the segment's start would differ
  pub one : {start origin at place size other here there : ℕ} {kind another : NameFault} → start ≡ origin → at ≡ place → size ≡ other
      → FirstFault message start at size kind here → FirstFault message origin place other another there → (kind ≡ another) × (here ≡ there)
  one start_is at_is size_is (NoByte none) (NoByte none') = (refl, refl)
  one start_is at_is size_is (NoByte none) (NoLength byte' rest' is' least' most') = absurd (empty at_is none is')
  one start_is at_is size_is (NoByte none) (Passes len' rest' is' some' few' long') = absurd (empty at_is none is')
  one start_is at_is size_is (NoByte none) (CutLabel len' rest' is' some' few' fits' cut') = absurd (empty at_is none is')
  one start_is at_is size_is (NoByte none) (After label' rest' sized' is' fits' more') = absurd (empty at_is none is')
  one start_is at_is size_is (NoByte none) (CutPointer high' rest' is' marked' cut') = absurd (empty at_is none is')
  one start_is at_is size_is (NoByte none) (Forward high' low' rest' is' marked' forward') = absurd (empty at_is none is')
  one start_is at_is size_is (NoByte none) (Behind high' low' rest' is' marked' below' more') = absurd (empty at_is none is')
  one start_is at_is size_is (NoLength byte rest is least most) (NoByte none') = absurd (empty (sym at_is) none' is)
  one start_is at_is size_is (NoLength byte rest is least most) (NoLength byte' rest' is' least' most') = (refl, at_is)
  one start_is at_is size_is (NoLength byte rest is least most) (Passes len' rest' is' some' few' long') = absurd (omega (arith, (heads message at_is is is').0))
  one start_is at_is size_is (NoLength byte rest is least most) (CutLabel len' rest' is' some' few' fits' cut') = absurd (omega (arith, (heads message at_is is is').0))
  one start_is at_is size_is (NoLength byte rest is least most) (After label' rest' sized' is' fits' more') = absurd (omega (arith, (heads message at_is is is').0, sized'.0, sized'.1))
  one start_is at_is size_is (NoLength byte rest is least most) (CutPointer high' rest' is' marked' cut') = absurd (omega (arith, (heads message at_is is is').0))
  one start_is at_is size_is (NoLength byte rest is least most) (Forward high' low' rest' is' marked' forward') = absurd (omega (arith, (heads message at_is is is').0))
  one start_is at_is size_is (NoLength byte rest is least most) (Behind high' low' rest' is' marked' below' more') = absurd (omega (arith, (heads message at_is is is').0))
  one start_is at_is size_is (Passes len rest is some few long) (NoByte none') = absurd (empty (sym at_is) none' is)
  one start_is at_is size_is (Passes len rest is some few long) (NoLength byte' rest' is' least' most') = absurd (omega (arith, (heads message at_is is is').0))
  one start_is at_is size_is (Passes len rest is some few long) (Passes len' rest' is' some' few' long') = (refl, at_is)
  one start_is at_is size_is (Passes len rest is some few long) (CutLabel len' rest' is' some' few' fits' cut') = absurd (omega (arith, size_is, (heads message at_is is is').0))
  one start_is at_is size_is (Passes len rest is some few long) (After label' rest' sized' is' fits' more') = absurd (omega (arith, size_is, (heads message at_is is is').0, sized'.0, sized'.1))
  one start_is at_is size_is (Passes len rest is some few long) (CutPointer high' rest' is' marked' cut') = absurd (omega (arith, (heads message at_is is is').0))
  one start_is at_is size_is (Passes len rest is some few long) (Forward high' low' rest' is' marked' forward') = absurd (omega (arith, (heads message at_is is is').0))
  one start_is at_is size_is (Passes len rest is some few long) (Behind high' low' rest' is' marked' below' more') = absurd (omega (arith, (heads message at_is is is').0))
  one start_is at_is size_is (CutLabel len rest is some few fits cut) (NoByte none') = absurd (empty (sym at_is) none' is)
  one start_is at_is size_is (CutLabel len rest is some few fits cut) (NoLength byte' rest' is' least' most') = absurd (omega (arith, (heads message at_is is is').0))
  one start_is at_is size_is (CutLabel len rest is some few fits cut) (Passes len' rest' is' some' few' long') = absurd (omega (arith, size_is, (heads message at_is is is').0))
  one start_is at_is size_is (CutLabel len rest is some few fits cut) (CutLabel len' rest' is' some' few' fits' cut') = (refl, refl)
  one start_is at_is size_is (CutLabel len rest is some few fits cut) (After label' rest' sized' is' fits' more') = absurd (omega (arith, (heads message at_is is is').0, sized'.0, sized'.1, ap length (heads message at_is is is').1, length-append label' rest'))
  one start_is at_is size_is (CutLabel len rest is some few fits cut) (CutPointer high' rest' is' marked' cut') = absurd (omega (arith, (heads message at_is is is').0))
  one start_is at_is size_is (CutLabel len rest is some few fits cut) (Forward high' low' rest' is' marked' forward') = absurd (omega (arith, (heads message at_is is is').0))
  one start_is at_is size_is (CutLabel len rest is some few fits cut) (Behind high' low' rest' is' marked' below' more') = absurd (omega (arith, (heads message at_is is is').0))
  one start_is at_is size_is (After label rest sized is fits more) (NoByte none') = absurd (empty (sym at_is) none' is)
  one start_is at_is size_is (After label rest sized is fits more) (NoLength byte' rest' is' least' most') = absurd (omega (arith, (heads message at_is is is').0, sized.0, sized.1))
  one start_is at_is size_is (After label rest sized is fits more) (Passes len' rest' is' some' few' long') = absurd (omega (arith, size_is, (heads message at_is is is').0, sized.0, sized.1))
  one start_is at_is size_is (After label rest sized is fits more) (CutLabel len' rest' is' some' few' fits' cut') = absurd (omega (arith, (heads message at_is is is').0, sized.0, sized.1, ap length (heads message at_is is is').1, length-append label rest))
  one start_is at_is size_is (After label rest sized is fits more) (After label' rest' sized' is' fits' more') =
      let same = heads message at_is is is' in
      let label_same : label ≡ label' = same_front label label' rest rest' same.0 same.1 in
      one start_is (omega (arith, at_is, ap length label_same)) (omega (arith, size_is, ap length label_same)) more more'
  one start_is at_is size_is (After label rest sized is fits more) (CutPointer high' rest' is' marked' cut') = absurd (omega (arith, (heads message at_is is is').0, sized.0, sized.1))
  one start_is at_is size_is (After label rest sized is fits more) (Forward high' low' rest' is' marked' forward') = absurd (omega (arith, (heads message at_is is is').0, sized.0, sized.1))
  one start_is at_is size_is (After label rest sized is fits more) (Behind high' low' rest' is' marked' below' more') = absurd (omega (arith, (heads message at_is is is').0, sized.0, sized.1))
  one start_is at_is size_is (CutPointer high rest is marked cut) (NoByte none') = absurd (empty (sym at_is) none' is)
  one start_is at_is size_is (CutPointer high rest is marked cut) (NoLength byte' rest' is' least' most') = absurd (omega (arith, (heads message at_is is is').0))
  one start_is at_is size_is (CutPointer high rest is marked cut) (Passes len' rest' is' some' few' long') = absurd (omega (arith, (heads message at_is is is').0))
  one start_is at_is size_is (CutPointer high rest is marked cut) (CutLabel len' rest' is' some' few' fits' cut') = absurd (omega (arith, (heads message at_is is is').0))
  one start_is at_is size_is (CutPointer high rest is marked cut) (After label' rest' sized' is' fits' more') = absurd (omega (arith, (heads message at_is is is').0, sized'.0, sized'.1))
  one start_is at_is size_is (CutPointer high rest is marked cut) (CutPointer high' rest' is' marked' cut') = (refl, refl)
  one start_is at_is size_is (CutPointer high rest is marked cut) (Forward high' low' rest' is' marked' forward') = absurd (omega (arith, (heads message at_is is is').0, ap length (heads message at_is is is').1))
  one start_is at_is size_is (CutPointer high rest is marked cut) (Behind high' low' rest' is' marked' below' more') = absurd (omega (arith, (heads message at_is is is').0, ap length (heads message at_is is is').1))
  one start_is at_is size_is (Forward high low rest is marked forward) (NoByte none') = absurd (empty (sym at_is) none' is)
  one start_is at_is size_is (Forward high low rest is marked forward) (NoLength byte' rest' is' least' most') = absurd (omega (arith, (heads message at_is is is').0))
  one start_is at_is size_is (Forward high low rest is marked forward) (Passes len' rest' is' some' few' long') = absurd (omega (arith, (heads message at_is is is').0))
  one start_is at_is size_is (Forward high low rest is marked forward) (CutLabel len' rest' is' some' few' fits' cut') = absurd (omega (arith, (heads message at_is is is').0))
  one start_is at_is size_is (Forward high low rest is marked forward) (After label' rest' sized' is' fits' more') = absurd (omega (arith, (heads message at_is is is').0, sized'.0, sized'.1))
  one start_is at_is size_is (Forward high low rest is marked forward) (CutPointer high' rest' is' marked' cut') = absurd (omega (arith, (heads message at_is is is').0, ap length (heads message at_is is is').1))
  one start_is at_is size_is (Forward high low rest is marked forward) (Forward high' low' rest' is' marked' forward') = (refl, at_is)
  one start_is at_is size_is (Forward high low rest is marked forward) (Behind high' low' rest' is' marked' below' more') =
      let same = heads message at_is is is' in
      let second : low ≡ low' = cc in
      absurd (omega (arith, start_is, ap₂ target same.0 second))
  one start_is at_is size_is (Behind high low rest is marked below more) (NoByte none') = absurd (empty (sym at_is) none' is)
  one start_is at_is size_is (Behind high low rest is marked below more) (NoLength byte' rest' is' least' most') = absurd (omega (arith, (heads message at_is is is').0))
  one start_is at_is size_is (Behind high low rest is marked below more) (Passes len' rest' is' some' few' long') = absurd (omega (arith, (heads message at_is is is').0))
  one start_is at_is size_is (Behind high low rest is marked below more) (CutLabel len' rest' is' some' few' fits' cut') = absurd (omega (arith, (heads message at_is is is').0))
  one start_is at_is size_is (Behind high low rest is marked below more) (After label' rest' sized' is' fits' more') = absurd (omega (arith, (heads message at_is is is').0, sized'.0, sized'.1))
  one start_is at_is size_is (Behind high low rest is marked below more) (CutPointer high' rest' is' marked' cut') = absurd (omega (arith, (heads message at_is is is').0, ap length (heads message at_is is is').1))
  one start_is at_is size_is (Behind high low rest is marked below more) (Forward high' low' rest' is' marked' forward') =
      let same = heads message at_is is is' in
      let second : low ≡ low' = cc in
      absurd (omega (arith, start_is, ap₂ target same.0 second))
  one start_is at_is size_is (Behind high low rest is marked below more) (Behind high' low' rest' is' marked' below' more') =
      let same = heads message at_is is is' in
      let second : low ≡ low' = cc in
      let to_is = ap₂ target same.0 second in
      ((one to_is to_is size_is more more').0, at_is)
