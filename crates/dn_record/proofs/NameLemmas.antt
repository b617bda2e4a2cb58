-- One name or two at the front of bytes, counted or plain.
use Rattle.std.proofs.Common.{◌≡◌, ℕ, ◌+◌, ◌≤◌, List, [], ◌∷◌, ◌++◌, length, drop, Option, None, Some, refl, sym, ap, ap₂, subst, ◌∙◌, arith, append_assoc, drop_at, length-append}
use Rattle.dn_name.specs.Counted.{Counted, counted_of}
use Rattle.dn_name.specs.Name.{IsName, Labels, wire_len, wire_of}
use Rattle.dn_record.specs.Names.{Begin}

wire_size : (name : Labels) → length (wire_of name) ≡ wire_len name
wire_size [] = refl
wire_size (label ∷ name) = omega (arith, length-append label (wire_of name), wire_size name)

-- ---- a counted name at the front

behind_counted : (bytes : List ℕ) (name : Labels) (next : ℕ) (back : List ℕ) → next ≡ 2 + wire_len name → bytes ≡ counted_of name ++ back → drop next bytes ≡ back
behind_counted bytes name next back next_is e = ap (drop next) e ∙ drop_at (counted_of name) back next (omega (arith, next_is, wire_size name))

pub counted_front : (bytes : List ℕ) (name : Labels) (next : ℕ) (rest : List ℕ) → rest ≡ drop next bytes → Counted bytes 0 name next → IsName name × (bytes ≡ counted_of name ++ rest)
counted_front bytes name next rest split is =
    (is.named, is.stands ∙ ap (λ xs. counted_of name ++ xs) (sym (split ∙ behind_counted bytes name next is.rest (omega (arith, is.next_is)) is.stands)))

pub counted_again : (bytes : List ℕ) (name : Labels) (next : ℕ) (rest : List ℕ) → rest ≡ drop next bytes → ((other : Labels × ℕ) → Counted bytes 0 other.0 other.1 → other ≡ (name, next))
    → (other : Labels) (back : List ℕ) → IsName other → bytes ≡ counted_of other ++ back → ◌≡◌ {A = Option (Labels × List ℕ)} (Some (name, rest)) (Some (other, back))
counted_again bytes name next rest split only other back named e =
    let same : (other, 2 + wire_len other) ≡ (name, next) = only (other, 2 + wire_len other) (record { named = named; rest = back; stands = e; next_is = omega arith }) in
    let next_is : 2 + wire_len other ≡ next = ap (λ (p : Labels × ℕ). p.1) same in
    ap₂ (λ (xs : Labels) (ys : List ℕ). Some (xs, ys)) (sym (ap (λ (p : Labels × ℕ). p.0) same)) (split ∙ behind_counted bytes other next back (sym next_is) e)

pub no_counted : (bytes : List ℕ) → ((other : Labels × ℕ) → Counted bytes 0 other.0 other.1 → ⊥) → (other : Labels) (back : List ℕ) → IsName other → bytes ≡ counted_of other ++ back → ⊥
no_counted bytes none other back named e = none (other, 2 + wire_len other) (record { named = named; rest = back; stands = e; next_is = omega arith })

-- ---- one name or two

module _ (one_of : Labels → List ℕ) (bytes_of : List Labels → List ℕ) (step : (name : Labels) (names : List Labels) → bytes_of (name ∷ names) ≡ one_of name ++ bytes_of names)
    (none : bytes_of [] ≡ []) where
  first_split : (name : Labels) (names : List Labels) (back : List ℕ) → bytes_of (name ∷ names) ++ back ≡ one_of name ++ (bytes_of names ++ back)
  first_split name names back = ap (λ xs. xs ++ back) (step name names) ∙ append_assoc (one_of name) (bytes_of names) back

  no_more : (back : List ℕ) → bytes_of [] ++ back ≡ back
  no_more back = ap (λ xs. xs ++ back) none

  pub one_found : (count : ℕ) (bytes : List ℕ) (name : Labels) (rest : List ℕ) → count ≡ 1 → IsName name × (bytes ≡ one_of name ++ rest) → Begin bytes_of count bytes (name ∷ []) rest
  one_found count bytes name rest single is =
      ((sym single, (is.0, tt)), is.1 ∙ ap (λ xs. one_of name ++ xs) (sym (no_more rest)) ∙ sym (first_split name [] rest))

  pub two_found : (count : ℕ) (bytes : List ℕ) (name other : Labels) (between rest : List ℕ) → count ≡ 2 → IsName name × (bytes ≡ one_of name ++ between)
      → IsName other × (between ≡ one_of other ++ rest) → Begin bytes_of count bytes (name ∷ (other ∷ [])) rest
  two_found count bytes name other between rest double is also = (
    (sym double, (is.0, (also.0, tt))),
    is.1
        ∙ ap (λ xs. one_of name ++ xs) (also.1 ∙ ap (λ xs. one_of other ++ xs) (sym (no_more rest)) ∙ sym (first_split other [] rest))
        ∙ sym (first_split name (other ∷ []) rest),
  )

  abbrev pub Only : List ℕ → Option (Labels × List ℕ) → Type 0
  Only bytes found = (name : Labels) (back : List ℕ) → IsName name → bytes ≡ one_of name ++ back → found ≡ Some (name, back)

  pub no_first : (count : ℕ) (bytes : List ℕ) → 1 ≤ count → Only bytes None → (names : List Labels) (back : List ℕ) → Begin bytes_of count bytes names back → ⊥
  no_first count bytes some only [] back begin = omega (arith, some, begin.0.0)
  no_first count bytes some only (name ∷ names) back begin =
      let found : ◌≡◌ {A = Option (Labels × List ℕ)} None (Some (name, bytes_of names ++ back)) = only name (bytes_of names ++ back) begin.0.1.0 (begin.1 ∙ first_split name names back) in
      absurd (cc)

  behind_of : {left right : Labels × List ℕ} → Some left ≡ Some right → left ≡ right
  behind_of same = cc

  pub no_second : (count : ℕ) (bytes : List ℕ) (first : Labels) (rest : List ℕ) → 2 ≤ count → Only rest None → Only bytes (Some (first, rest))
      → (names : List Labels) (back : List ℕ) → Begin bytes_of count bytes names back → ⊥
  no_second count bytes first rest two none_behind only [] back begin = omega (arith, two, begin.0.0)
  no_second count bytes first rest two none_behind only (name ∷ []) back begin = omega (arith, two, begin.0.0)
  no_second count bytes first rest two none_behind only (name ∷ (other ∷ names)) back begin =
      let same = behind_of (only name (bytes_of (other ∷ names) ++ back) begin.0.1.0 (begin.1 ∙ first_split name (other ∷ names) back)) in
      let behind : rest ≡ one_of other ++ (bytes_of names ++ back) = ap (λ (p : Labels × List ℕ). p.1) same ∙ first_split other names back in
      let found : ◌≡◌ {A = Option (Labels × List ℕ)} None (Some (other, bytes_of names ++ back)) = none_behind other (bytes_of names ++ back) begin.0.1.1.0 behind in
      absurd (cc)

  -- the same where the rest is known by another name
  pub no_other : (count : ℕ) (bytes : List ℕ) (first : Labels) (rest between : List ℕ) → 2 ≤ count → Only between None → Only bytes (Some (first, rest)) → between ≡ rest
      → (names : List Labels) (back : List ℕ) → Begin bytes_of count bytes names back → ⊥
  no_other count bytes first rest between two none_behind only same = no_second count bytes first rest two (subst (λ xs. Only xs None) same none_behind) only
