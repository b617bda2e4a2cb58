-- What one turn of reading a name with pointers keeps.
use Rattle.std.proofs.Common.{◌≡◌, ℕ, ◌+◌, ◌≤◌, ◌<◌, List, [], ◌∷◌, ◌++◌, length, drop, Bool, true, false, nat_le, if◌then◌else◌, Option, None, Some, unwrap_or, refl, sym, ap, subst, ◌∙◌, arith, length-drop, length-append, append_assoc, append-nil}
use Rattle.std.proofs.lemmas.Bool.Decides.{nat_tests}
use Rattle.dn_name.specs.FirstFault.{FirstFault, After, Behind}
use Rattle.dn_name.specs.Name.{Labels, IsName, wire_len}
use Rattle.dn_name.specs.Spelled.{target, Segment, Ends, Goes, Leads}
use Rattle.dn_name.specs.Turning.{Finishes, GoesOn, IsLost, Meets, blamed}
use Rattle.dn_name.specs.declared.error.NameError.{NameError}
use Rattle.dn_name.specs.declared.error.NameFault.{NameFault}
use Rattle.dn_name.specs.declared.pointers.Walk.{Walk}
use Rattle.dn_name.proofs.PushedLabelLemmas.{name-push, wire_len-push}
use Rattle.dn_name.proofs.SpelledLemmas.{heads, same_front}
use Rattle.dn_name.proofs.TextReadingLemmas.{wire_len-append, wire_len_least}

module _ (message : List ℕ) where
  -- ---- what is spelled, by its first byte

  -- a spelling whose first byte is the length of a label
  pub record Labelled (start at : ℕ) (rest label : List ℕ) (labels : Labels) (next : ℕ) : Type 0 where
    pub back : List ℕ
    pub rest_is : rest ≡ label ++ back
    pub more : Labels
    pub labels_is : labels ≡ label ∷ more
    pub segment : Segment message start (at + 1 + length label) more next

  pub by_label : {start at next len : ℕ} {labels : Labels} {rest : List ℕ} → 1 ≤ len → len ≤ 63 → drop at message ≡ len ∷ rest → Segment message start at labels next
      → (label : List ℕ) × (length label ≡ len) × Labelled start at rest label labels next
  by_label some few e (Ends rest' is) = absurd (omega (arith, (heads message refl e is).0))
  by_label some few e (Goes label rest' sized is more) =
      let both = heads message refl e is in (label, sym both.0, record { back = rest'; rest_is = both.1; more = _; labels_is = refl; segment = more })
  by_label some few e (Leads high low rest' marked is below more) = absurd (omega (arith, (heads message refl e is).0))

  -- a spelling whose first byte is that of a pointer
  pub record Led (start at high : ℕ) (rest : List ℕ) (labels : Labels) (next : ℕ) : Type 0 where
    pub low : ℕ
    pub back : List ℕ
    pub elsewhere : ℕ
    pub rest_is : rest ≡ low ∷ back
    pub below : target high low < start
    pub segment : Segment message (target high low) (target high low) labels elsewhere
    pub next_is : next ≡ at + 2

  pub by_pointer : {start at next high : ℕ} {labels : Labels} {rest : List ℕ} → 192 ≤ high → drop at message ≡ high ∷ rest → Segment message start at labels next
      → Led start at high rest labels next
  by_pointer marked e (Ends rest' is) = absurd (omega (arith, (heads message refl e is).0))
  by_pointer marked e (Goes label rest' sized is more) = absurd (omega (arith, sized.1, (heads message refl e is).0))
  by_pointer {start} {at} {labels} {rest} marked e (Leads {elsewhere} high low rest' marked' is below more) =
      let both = heads message refl e is in
      subst (λ first. Led start at first rest labels (at + 2)) (sym both.0)
      (record { low = low; back = rest'; elsewhere = elsewhere; rest_is = both.1; below = below; segment = more; next_is = refl })

  pub by_other : {start at next byte : ℕ} {labels : Labels} {rest : List ℕ} → 64 ≤ byte → byte < 192 → drop at message ≡ byte ∷ rest → Segment message start at labels next → ⊥
  by_other least most e (Ends rest' is) = omega (arith, (heads message refl e is).0)
  by_other least most e (Goes label rest' sized is more) = omega (arith, sized.1, (heads message refl e is).0)
  by_other least most e (Leads high low rest' marked is below more) = omega (arith, (heads message refl e is).0)

  pub by_nothing : {start at next : ℕ} {labels : Labels} → length (drop at message) ≡ 0 → Segment message start at labels next → ⊥
  by_nothing e (Ends rest' is) = omega (arith, ap length is)
  by_nothing e (Goes label rest' sized is more) = omega (arith, ap length is)
  by_nothing e (Leads high low rest' marked is below more) = omega (arith, ap length is)

  -- ---- the end, and what is no name

  pub ends : (walk : Walk) (rest : List ℕ) (next : ℕ) → drop walk.place message ≡ 0 ∷ rest → next ≡ unwrap_or walk.behind (walk.place + 1) → Finishes message walk walk.name next
  ends walk rest next e next_is = record { labels = []; after = walk.place + 1; segment = Ends rest e; name_is = sym (append-nil walk.name); next_is = next_is }

  pub no_byte : (walk : Walk) → length (drop walk.place message) ≡ 0 → IsLost message walk
  no_byte walk e name next is end = by_nothing e end.segment

  pub no_length : (walk : Walk) (byte : ℕ) (rest : List ℕ) → drop walk.place message ≡ byte ∷ rest → 64 ≤ byte → byte < 192 → IsLost message walk
  no_length walk byte rest e least most name next is end = by_other least most e end.segment

  pub label_cut : (walk : Walk) (len : ℕ) (rest : List ℕ) → drop walk.place message ≡ len ∷ rest → 1 ≤ len → len ≤ 63 → length rest < len → IsLost message walk
  label_cut walk len rest e some few cut name next is end =
      let found = by_label some few e end.segment in
      omega (arith, found.1, ap length found.2.rest_is, length-append found.0 found.2.back)

  pub label_long : (walk : Walk) (len : ℕ) (rest label back : List ℕ) → drop walk.place message ≡ len ∷ rest → 1 ≤ len → len ≤ 63 → rest ≡ label ++ back → length label ≡ len
      → 255 < wire_len (walk.name ++ label ∷ []) → IsLost message walk
  label_long walk len rest label back e some few split count long name next is end =
      let found = by_label some few e end.segment in
      let same : label ≡ found.0 = same_front label found.0 back found.2.back (count ∙ sym found.1) (sym split ∙ found.2.rest_is) in
      let all : name ≡ (walk.name ++ label ∷ []) ++ found.2.more =
      end.name_is ∙ ap (λ xs. walk.name ++ xs) found.2.labels_is ∙ ap (λ x. walk.name ++ (x ∷ found.2.more)) (sym same) ∙ sym (append_assoc walk.name (label ∷ []) found.2.more) in
      omega (arith, is.1, ap wire_len all, wire_len-append (walk.name ++ label ∷ []) found.2.more, wire_len_least found.2.more)

  pub pointer_cut : (walk : Walk) (high : ℕ) (rest : List ℕ) → drop walk.place message ≡ high ∷ rest → 192 ≤ high → length rest ≡ 0 → IsLost message walk
  pointer_cut walk high rest e marked cut name next is end = let led = by_pointer marked e end.segment in omega (arith, ap length led.rest_is)

  pub pointer_forward : (walk : Walk) (high low : ℕ) (rest back : List ℕ) → drop walk.place message ≡ high ∷ rest → 192 ≤ high → rest ≡ low ∷ back → walk.start ≤ target high low → IsLost message walk
  pointer_forward walk high low rest back e marked split forward name next is end =
      let led = by_pointer marked e end.segment in
      let same : low ≡ led.low = cc in
      omega (arith, led.below, ap (target high) same)

  -- the error that is made of a fault
  pub meets_by : (walk : Walk) (kind : NameFault) (place : ℕ) (error : NameError) → error ≡ record { kind = kind; place = blamed walk.behind place }
      → FirstFault message walk.start walk.place (wire_len walk.name) kind place → Meets message walk error
  meets_by walk kind place error e fault = subst (Meets message walk) (sym e) (record { place = place; fault = fault; place_is = refl })

  -- ---- a label

  pub label_on : (walk : Walk) (len place : ℕ) (rest label back : List ℕ) (named : Labels) → drop walk.place message ≡ len ∷ rest → 1 ≤ len → len ≤ 63 → rest ≡ label ++ back → length label ≡ len
      → named ≡ walk.name ++ label ∷ [] → walk.start ≤ length message → wire_len (walk.name ++ label ∷ []) ≤ 255 → place ≡ walk.place + (1 + len)
      → GoesOn message walk (record { name = named; start = walk.start; place = place; behind = walk.behind })
  label_on walk len place rest label back named e some few split count name_is started fits place_is =
      let within : place ≤ length message = omega (arith, ap length e, ap length split, length-append label back, length-drop walk.place message) in
      let longer : wire_len named ≡ wire_len walk.name + length label + 1 = ap wire_len name_is ∙ omega (arith, wire_len-push walk.name label) in
      record {
        goes = λ name next end. record {
          labels = label ∷ end.labels;
          after = end.after;
          segment = Goes label back (omega arith, omega arith) (cc) (subst (λ p. Segment message walk.start p end.labels end.after) (omega arith) end.segment);
          name_is = end.name_is ∙ ap (λ xs. xs ++ end.labels) name_is ∙ append_assoc walk.name (label ∷ []) end.labels;
          next_is = end.next_is;
        };
        only = λ name next end.
            let found = by_label some few e end.segment in
            let same : label ≡ found.0 = same_front label found.0 back found.2.back (count ∙ sym found.1) (sym split ∙ found.2.rest_is) in
            record {
              labels = found.2.more;
              after = end.after;
              segment = subst (λ p. Segment message walk.start p found.2.more end.after) (omega (arith, found.1)) found.2.segment;
              name_is =
                  end.name_is ∙ ap (λ xs. walk.name ++ xs) found.2.labels_is ∙ ap (λ x. walk.name ++ (x ∷ found.2.more)) (sym same)
                  ∙ sym (append_assoc walk.name (label ∷ []) found.2.more) ∙ ap (λ xs. xs ++ found.2.more) (sym name_is);
              next_is = end.next_is;
            };
        faults = λ error met. record {
          place = met.place;
          fault = After label back (omega arith, omega arith) (cc) (omega (arith, wire_len-push walk.name label))
              (subst (λ p. FirstFault message walk.start p (wire_len walk.name + length label + 1) error.kind met.place) (omega arith)
              (subst (λ size. FirstFault message walk.start place size error.kind met.place) longer met.fault));
          place_is = met.place_is;
        };
        falls = omega (arith, longer, fits, wire_len-push walk.name label);
        within = record { start = started; place = within };
        named = λ is. subst IsName (sym name_is) (name-push walk.name label is (omega arith, omega arith) (omega (arith, wire_len-push walk.name label)));
      }

  -- ---- a pointer

  pointer_blamed : (before : Option ℕ) (start at size high low to after : ℕ) (back : List ℕ) (error : NameError) (place : ℕ) → drop at message ≡ high ∷ (low ∷ back) → 192 ≤ high
      → to ≡ target high low → to < start → after ≡ unwrap_or before (at + 2) → FirstFault message to to size error.kind place → error.place ≡ blamed (Some after) place
      → (first : ℕ) × FirstFault message start at size error.kind first × (error.place ≡ blamed before first)
  pointer_blamed None start at size high low to after back error place e marked to_is below after_is fault blame =
      (at, Behind high low back e marked (omega arith) (subst (λ t. FirstFault message t t size error.kind place) to_is fault), omega arith)
  pointer_blamed (Some next) start at size high low to after back error place e marked to_is below after_is fault blame =
      (at, Behind high low back e marked (omega arith) (subst (λ t. FirstFault message t t size error.kind place) to_is fault), omega arith)

  pub pointer_on : (walk : Walk) (high low to after : ℕ) (rest back : List ℕ) → drop walk.place message ≡ high ∷ rest → 192 ≤ high → rest ≡ low ∷ back → to ≡ target high low → to < walk.start
      → walk.start ≤ length message → after ≡ unwrap_or walk.behind (walk.place + 2) → GoesOn message walk (record { name = walk.name; start = to; place = to; behind = Some after })
  pointer_on walk high low to after rest back e marked split to_is below started after_is =
      record {
        goes = λ name next end. record {
          labels = end.labels;
          after = walk.place + 2;
          segment = Leads {elsewhere = end.after} high low back marked (cc) (omega arith) (subst (λ p. Segment message p p end.labels end.after) to_is end.segment);
          name_is = end.name_is;
          next_is = end.next_is ∙ after_is;
        };
        only = λ name next end.
            let led = by_pointer marked e end.segment in
            let same : low ≡ led.low = cc in
            record {
              labels = end.labels;
              after = led.elsewhere;
              segment = subst (λ p. Segment message p p end.labels led.elsewhere) (ap (target high) (sym same) ∙ sym to_is) led.segment;
              name_is = end.name_is;
              next_is = end.next_is ∙ ap (unwrap_or walk.behind) led.next_is ∙ sym after_is;
            };
        faults = λ error met.
            let first = pointer_blamed walk.behind walk.start walk.place (wire_len walk.name) high low to after back error met.place (cc) marked to_is below after_is met.fault met.place_is in
            record { place = first.0; fault = first.1; place_is = first.2 };
        falls = omega arith;
        within = record { start = omega arith; place = omega arith };
        named = λ is. is;
      }

  -- ---- the whole name

  pub begins : (at next : ℕ) (none name : Labels) → none ≡ [] → Segment message at at name next → Finishes message (record { name = none; start = at; place = at; behind = None }) name next
  begins at next none name e segment = record { labels = name; after = next; segment = segment; name_is = ap (λ xs. xs ++ name) (sym e); next_is = refl }

  pub whole : (at next : ℕ) (none name : Labels) → none ≡ [] → Finishes message (record { name = none; start = at; place = at; behind = None }) name next → Segment message at at name next
  whole at next none name e end =
      subst (λ n. Segment message at at name n) (sym end.next_is) (subst (λ xs. Segment message at at xs end.after) (sym (end.name_is ∙ ap (λ xs. xs ++ end.labels) e)) end.segment)

  pub met_first : (at : ℕ) (none : Labels) (error : NameError) → none ≡ [] → Meets message (record { name = none; start = at; place = at; behind = None }) error
      → FirstFault message at at 1 error.kind error.place
  met_first at none error e met =
      subst (λ place. FirstFault message at at 1 error.kind place) (sym met.place_is) (subst (λ xs. FirstFault message at at (wire_len xs) error.kind met.place) e met.fault)

-- ---- a choice that was made

pub chosen_some : {A : Type 0} (b : Bool) (x y : A) → (if b then Some x else None) ≡ Some y → y ≡ x
chosen_some true x y e = cc
chosen_some false x y e = absurd (cc)

pub chosen_fits : {A : Type 0} (n : ℕ) (x y : A) → (if nat_le n 255 then Some x else None) ≡ Some y → n ≤ 255
chosen_fits n x y e = grind (arith, nat_tests)

pub chosen_none : {A : Type 0} (n : ℕ) (x : A) → (if nat_le n 255 then Some x else None) ≡ None → 255 < n
chosen_none n x e = grind (arith, nat_tests)
