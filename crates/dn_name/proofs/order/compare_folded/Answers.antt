use Rattle.std.proofs.Common.{rules, ◌≡◌, ◌∙◌, ap₂, refl, List, ℕ, nat_cmp}
use Rattle.std.specs.Char.{to_ascii_lowercase}
use Rattle.std.specs.Cmp.Lexicographic.{slice_cmp}
use Rattle.std.proofs.lemmas.Iterator.{YieldsList-from_map, YieldsList-from_slice}
use Rattle.std.proofs.lemmas.Iterator.Consumers.{YieldsList-at}
use Rattle.std.proofs.lemmas.Iterator.Search.{cmp_from_yields_List}
use Rattle.dn_name.proofs.LowerCaseLemmas.{folded-label}
use Rattle.dn_name.proofs.order.compare_folded.Goals as goal

pub returns : goal.returns
returns c =
    cmp_from_yields_List (λ x y. y ≡ x) _ nat_cmp _ c.cmp.ensures.ran
    (YieldsList-from_map _ to_ascii_lowercase (YieldsList-at c.map-left.ensures.source (YieldsList-from_slice c.args.left.now cc)) c.map-left.ensures.closure (λ x r q k. search rules))
    (λ it e. YieldsList-at e (YieldsList-from_map _ to_ascii_lowercase (YieldsList-at c.map.ensures.source (YieldsList-from_slice c.args.right.now cc)) c.map.ensures.closure (λ x r q k. search rules)))
    (λ x y. refl)
    ∙ ap₂ (λ (xs ys : List ℕ). slice_cmp nat_cmp xs ys) (folded-label c.args.left.now) (folded-label c.args.right.now)
