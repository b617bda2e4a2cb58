-- Strings one behind another.
use Rattle.std.proofs.Common.{◌≡◌, ℕ, ◌≤◌, List, [], ◌∷◌, ◌++◌, length, take, drop, Option, None, Some, refl, sym, ap, ap₂, ◌∙◌, arith, append-nil, length-take-le, take-append-drop}
use Rattle.dn_rdata.specs.Layout.{AreTexts, Begins, text_bytes, texts_bytes}
use Rattle.dn_rdata.specs.declared.parts.Part.TheVariants.{OneText, Texts}

-- a length byte, so many bytes, and the rest
pub text_begins : (bytes tail back : List ℕ) (len count : ℕ) → bytes ≡ len ∷ tail → count ≡ len → count ≤ length tail → back ≡ drop count tail → Begins OneText bytes back
text_begins bytes tail back len count e same fits behind =
    let size : len ≡ length (take count tail) = sym same ∙ sym (length-take-le count tail fits) in
    let split : tail ≡ take count tail ++ back = sym (take-append-drop count tail) ∙ ap (λ xs. take count tail ++ xs) (sym behind) in
    (text_bytes (take count tail), e ∙ ap₂ (λ (n : ℕ) (xs : List ℕ). n ∷ xs) size split, (take count tail, refl))

-- behind the first strings of some bytes stands a rest: they are strings up to the end exactly where the rest is none or more
pub record AreMore (bytes rest : List ℕ) : Type 0 where
  pub goes : AreTexts rest → Begins Texts bytes []
  pub only : (back : List ℕ) → Begins Texts bytes back → (back ≡ []) × AreTexts rest

-- behind the first of some strings stand the others
text_behind : (text : List ℕ) (texts : List (List ℕ)) (bytes : List ℕ) → bytes ≡ texts_bytes (text ∷ texts) → Begins OneText bytes (texts_bytes texts)
text_behind text texts bytes e = (text_bytes text, e, (text, refl))

-- a string and those behind it
text_and_more : (bytes rest : List ℕ) (found : Begins OneText bytes rest) (texts : List (List ℕ)) → rest ≡ texts_bytes texts → bytes ≡ texts_bytes (found.2.0 ∷ texts)
text_and_more bytes rest found texts e = found.1 ∙ ap₂ (λ (xs : List ℕ) (ys : List ℕ). xs ++ ys) found.2.1 e

pub first_text : (bytes rest : List ℕ) → Begins OneText bytes rest → ((back : List ℕ) → Begins OneText bytes back → Some rest ≡ Some back) → AreMore bytes rest
first_text bytes rest found once = record {
  goes = λ more. (
    texts_bytes (found.2.0 ∷ more.0),
    text_and_more bytes rest found more.0 more.1 ∙ sym (append-nil (texts_bytes (found.2.0 ∷ more.0))),
    (found.2.0, more.0, refl, refl),
  );
  only = λ back h.
      let all : bytes ≡ texts_bytes (h.2.0 ∷ h.2.1) = h.1 ∙ ap₂ (λ (xs : List ℕ) (ys : List ℕ). xs ++ ys) h.2.2 h.2.3 ∙ append-nil (texts_bytes (h.2.0 ∷ h.2.1)) in
      let same : Some rest ≡ Some (texts_bytes h.2.1) = once (texts_bytes h.2.1) (text_behind h.2.0 h.2.1 bytes all) in
      (h.2.3, (h.2.1, cc));
}

-- without a first string there are no strings
pub no_first_text : (bytes : List ℕ) → ((back : List ℕ) → Begins OneText bytes back → ◌≡◌ {A = Option (List ℕ)} None (Some back)) → (back : List ℕ) → Begins Texts bytes back → ⊥
no_first_text bytes once back h =
    let all : bytes ≡ texts_bytes (h.2.0 ∷ h.2.1) = h.1 ∙ ap₂ (λ (xs : List ℕ) (ys : List ℕ). xs ++ ys) h.2.2 h.2.3 ∙ append-nil (texts_bytes (h.2.0 ∷ h.2.1)) in
    let none : ◌≡◌ {A = Option (List ℕ)} None (Some (texts_bytes h.2.1)) = once (texts_bytes h.2.1) (text_behind h.2.0 h.2.1 bytes all) in
    cc

module _ (bytes rest : List ℕ) (old : AreMore bytes rest) (some : 1 ≤ length rest) where
  pub next_text : (next : List ℕ) → Begins OneText rest next → ((back : List ℕ) → Begins OneText rest back → Some next ≡ Some back) → AreMore bytes next
  next_text next found once = record {
    goes = λ more. old.goes (found.2.0 ∷ more.0, text_and_more rest next found more.0 more.1);
    only = λ back h. let before = old.only back h in (before.0, of_rest before.1.0 before.1.1);
  }
    where
      of_rest : (texts : List (List ℕ)) → rest ≡ texts_bytes texts → AreTexts next
      of_rest [] e = absurd (omega (arith, ap length e))
      of_rest (text ∷ texts) e =
          let same : Some next ≡ Some (texts_bytes texts) = once (texts_bytes texts) (text_behind text texts rest e) in
          (texts, cc)

  pub no_next_text : ((back : List ℕ) → Begins OneText rest back → ◌≡◌ {A = Option (List ℕ)} None (Some back)) → (back : List ℕ) → Begins Texts bytes back → ⊥
  no_next_text once back h = of_rest (old.only back h).1.0 (old.only back h).1.1
    where
      of_rest : (texts : List (List ℕ)) → rest ≡ texts_bytes texts → ⊥
      of_rest [] e = absurd (omega (arith, ap length e))
      of_rest (text ∷ texts) e =
          let none : ◌≡◌ {A = Option (List ℕ)} None (Some (texts_bytes texts)) = once (texts_bytes texts) (text_behind text texts rest e) in
          cc
