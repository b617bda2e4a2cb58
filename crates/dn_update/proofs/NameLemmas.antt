-- Names in lower case: where they stand, and what is in their place in the order of names.
use Rattle.std.proofs.Common.{◌≡◌, ℕ, ◌||◌, true, List, [], ◌∷◌, nat_eq, reverse, refl, ap, ap₂, sym, ◌∙◌}
use Rattle.std.proofs.lemmas.Bool.{true≢false}
use Rattle.std.proofs.lemmas.List.{reverse-reverse}
use Rattle.std.proofs.lemmas.Map.Lookups.{exact_bytes}
use Rattle.std.specs.Cmp.Lexicographic.{slice_cmp}
use Rattle.std.specs.Ordering.{is_eq, is_gt, is_lt, nat_cmp, ordering_then}
use Rattle.std.specs.declared.cmp.Ordering.{Ordering}
use Rattle.std.specs.declared.cmp.Ordering.TheVariants.{Less, Equal, Greater}
use lib.Pointwise.{bytes_decides, pointwise, pointwise_decides}
use Rattle.dn_name.specs.Name.{Labels, is_under, lowered, order}
use Rattle.dn_store.proofs.CallerLemmas.{lower_lowered}

-- ---- in lower case once and again

lowered_twice : (name : Labels) → lowered (lowered name) ≡ lowered name
lowered_twice name = sym ((pointwise_decides bytes_decides (lowered name) (lowered (lowered name))).0 (lower_lowered name))

-- the name in lower case stands under the apex as the name does
pub lowered_under : (name apex : Labels) → is_under (lowered name) apex ≡ is_under name apex
lowered_under [] apex = refl
lowered_under (label ∷ name) apex =
    ap₂ (λ here later. here || later) (ap (λ labels. pointwise (pointwise nat_eq) labels (lowered apex)) (lowered_twice (label ∷ name))) (lowered_under name apex)

-- ---- two names in one place of the order

both_equal : (first second : Ordering) → ordering_then first second ≡ Equal → (first ≡ Equal) × (second ≡ Equal)
both_equal Less second is = absurd (true≢false (ap is_lt is))
both_equal Equal second is = (refl, is)
both_equal Greater second is = absurd (true≢false (ap is_gt is))

labels_exact : (left right : Labels) → slice_cmp (slice_cmp nat_cmp) left right ≡ Equal → left ≡ right
labels_exact [] [] is = refl
labels_exact [] (label ∷ right) is = absurd (true≢false (ap is_lt is))
labels_exact (label ∷ left) [] is = absurd (true≢false (ap is_gt is))
labels_exact (label ∷ left) (other ∷ right) is =
    let parts = both_equal (slice_cmp nat_cmp label other) (slice_cmp (slice_cmp nat_cmp) left right) is in
    ap₂ (λ (first : List ℕ) (rest : Labels). first ∷ rest) (exact_bytes label other parts.0) (labels_exact left right parts.1)

equal_from : (order : Ordering) → is_eq order ≡ true → order ≡ Equal
equal_from Less is = absurd (true≢false (sym is))
equal_from Equal is = refl
equal_from Greater is = absurd (true≢false (sym is))

-- they are equal but for the case of letters
pub order_same : (left right : Labels) → is_eq (order left right) ≡ true → lowered left ≡ lowered right
order_same left right is =
    sym (reverse-reverse (lowered left)) ∙ ap reverse (labels_exact (reverse (lowered left)) (reverse (lowered right)) (equal_from (order left right) is)) ∙ reverse-reverse (lowered right)
