-- Joining by the greater stamp: the laws of a join.
use Rattle.std.specs.Prelude.{◌≡◌, Bool, true, false, if◌then◌else◌}
use Rattle.std.specs.Ordering.{is_gt, is_lt, nat_cmp, ordering_reverse, ordering_then}
use Rattle.std.specs.declared.cmp.Ordering.{Ordering}
use Rattle.std.specs.declared.cmp.Ordering.TheVariants.{Less, Equal, Greater}
use Rattle.std.specs.Cmp.Lexicographic.{slice_cmp}
use Rattle.std.proofs.Common.{ap, refl, sym, true≢false, ◌∙◌}
use Rattle.std.specs.Cmp.{IsTotalOrder}
use Rattle.std.proofs.lemmas.Cmp.{nat_cmp_total, nat_list_cmp_total, on_total, then_total, alike_right, tied_itself}
use Rattle.std.proofs.lemmas.Map.Lookups.{exact_bytes, exact_unsigned}
use Rattle.dn_stamp.specs.declared.join.Stamped.{Stamped}
use Rattle.dn_stamp.specs.declared.stamp.Stamp.{Stamp}
use Rattle.dn_stamp.specs.Join.{Agree, greater}
use Rattle.dn_stamp.specs.Stamp.{stamp_order}

pub stamp_total : IsTotalOrder stamp_order
stamp_total =
    then_total (on_total (λ stamp. stamp.version) nat_cmp_total)
    (then_total (on_total (λ stamp. stamp.seconds) nat_cmp_total) (on_total (λ (stamp : Stamp). stamp.id.0) nat_list_cmp_total))

both_Equal : (first second : Ordering) → ordering_then first second ≡ Equal → (first ≡ Equal) × (second ≡ Equal)
both_Equal Less second tie = absurd (true≢false (ap is_lt tie))
both_Equal Equal second tie = (refl, tie)
both_Equal Greater second tie = absurd (true≢false (ap is_gt tie))

-- two stamps that the order doesn't tell apart are one stamp
pub stamp_exact : (left right : Stamp) → stamp_order left right ≡ Equal → left ≡ right
stamp_exact left right tie =
    let outer = both_Equal (nat_cmp left.version right.version) (ordering_then (nat_cmp left.seconds right.seconds) (slice_cmp nat_cmp left.id.0 right.id.0)) tie in
    let inner = both_Equal (nat_cmp left.seconds right.seconds) (slice_cmp nat_cmp left.id.0 right.id.0) outer.1 in
    let version = exact_unsigned left.version right.version outer.0 in
    let seconds = exact_unsigned left.seconds right.seconds inner.0 in
    let id = exact_bytes left.id.0 right.id.0 inner.1 in
    λ i. record { version = version i; seconds = seconds i; id = record { 0 = id i } }

abbrev pick : {T : Type 0} → Ordering → Stamped T → Stamped T → Stamped T
pick order left right = if is_lt order then right else left

same : {T : Type 0} (left right : Stamped T) → left.stamp ≡ right.stamp → left.value ≡ right.value → left ≡ right
same left right stamp value = λ i. record { stamp = stamp i; value = value i }

commutes_by : {T : Type 0} (left right : Stamped T) (order : Ordering) → stamp_order left.stamp right.stamp ≡ order → Agree left right
    → pick order left right ≡ pick (ordering_reverse order) right left
commutes_by left right Less is agree = refl
commutes_by left right Equal is agree =
    let stamps = stamp_exact left.stamp right.stamp is in same left right stamps (agree stamps)
commutes_by left right Greater is agree = refl

pub commutes : {T : Type 0} (left right : Stamped T) → Agree left right → greater left right ≡ greater right left
commutes left right agree =
    commutes_by left right (stamp_order left.stamp right.stamp) refl agree
    ∙ sym (ap (λ order. pick order right left) (stamp_total.antisymm right.stamp left.stamp))

pub idempotent : {T : Type 0} (one : Stamped T) → greater one one ≡ one
idempotent one = ap (λ order. pick order one one) (tied_itself stamp_total one.stamp)

-- not below the middle one, which isn't below the last
not_below : (left mid right : Stamp) (first second : Ordering) → stamp_order left mid ≡ first → stamp_order mid right ≡ second
    → is_lt first ≡ false → is_lt second ≡ false → is_lt (stamp_order left right) ≡ false
not_below left mid right Less second one two first-not second-not = absurd (true≢false first-not)
not_below left mid right first Less one two first-not second-not = absurd (true≢false second-not)
not_below left mid right Equal second one two first-not second-not =
    ap is_lt (stamp_total.congr left mid right one ∙ two) ∙ second-not
not_below left mid right Greater Equal one two first-not second-not =
    ap is_lt (sym (alike_right stamp_total mid right left two) ∙ one)
not_below left mid right Greater Greater one two first-not second-not =
    let down = stamp_total.trans right mid left (stamp_total.antisymm right mid ∙ ap ordering_reverse two) (stamp_total.antisymm mid left ∙ ap ordering_reverse one) in
    ap is_lt (stamp_total.antisymm left right ∙ ap ordering_reverse down)

below_both : (left mid right : Stamp) (first second : Ordering) → stamp_order left mid ≡ first → stamp_order mid right ≡ second
    → is_lt first ≡ true → is_lt second ≡ true → is_lt (stamp_order left right) ≡ true
below_both left mid right Less Less one two first-is second-is = ap is_lt (stamp_total.trans left mid right one two)
below_both left mid right Less Equal one two first-is second-is = absurd (true≢false (sym second-is))
below_both left mid right Less Greater one two first-is second-is = absurd (true≢false (sym second-is))
below_both left mid right Equal second one two first-is second-is = absurd (true≢false (sym first-is))
below_both left mid right Greater second one two first-is second-is = absurd (true≢false (sym first-is))

abbrev choose : {T : Type 0} → Bool → Stamped T → Stamped T → Stamped T
choose below left right = if below then right else left

associates_by : {T : Type 0} (left mid right : Stamped T) (first second : Bool)
    → is_lt (stamp_order left.stamp mid.stamp) ≡ first → is_lt (stamp_order mid.stamp right.stamp) ≡ second
    → greater (choose first left mid) right ≡ greater left (choose second mid right)
associates_by left mid right true true one two =
    ap (λ below. choose below mid right) two
    ∙ sym (ap (λ below. choose below left right) (below_both left.stamp mid.stamp right.stamp (stamp_order left.stamp mid.stamp) (stamp_order mid.stamp right.stamp) refl refl one two))
associates_by left mid right true false one two =
    ap (λ below. choose below mid right) two ∙ sym (ap (λ below. choose below left mid) one)
associates_by left mid right false true one two = refl
associates_by left mid right false false one two =
    ap (λ below. choose below left right) (not_below left.stamp mid.stamp right.stamp (stamp_order left.stamp mid.stamp) (stamp_order mid.stamp right.stamp) refl refl one two)
    ∙ sym (ap (λ below. choose below left mid) one)

pub associates : {T : Type 0} (left mid right : Stamped T) → Agree left mid → Agree mid right → Agree left right
    → greater (greater left mid) right ≡ greater left (greater mid right)
associates left mid right lm mr lr =
    associates_by left mid right (is_lt (stamp_order left.stamp mid.stamp)) (is_lt (stamp_order mid.stamp right.stamp)) refl refl

agree_by : {T : Type 0} (left right other : Stamped T) (below : Bool) → Agree left other → Agree right other → Agree (choose below left right) other
agree_by left right other true one two = two
agree_by left right other false one two = one

pub agree_onward : {T : Type 0} (left right other : Stamped T) → Agree left other → Agree right other → Agree (greater left right) other
agree_onward left right other one two = agree_by left right other (is_lt (stamp_order left.stamp right.stamp)) one two

pub itself : {T : Type 0} (one : Stamped T) → Agree one one
itself one = λ stamps. refl

pub both_ways : {T : Type 0} (left right : Stamped T) → Agree left right → Agree right left
both_ways left right agree = λ stamps. sym (agree (sym stamps))
