use Rattle.std.proofs.Common.{◌≡◌, [], ◌∷◌, ◌++◌, Some, arith, sym, ap, ◌∙◌}
use Rattle.dn_name.specs.Name.{wire_len}
use Rattle.dn_name.proofs.PushedLabelLemmas.{padded-push, name-push, wire_len-push, push_fits, push_passes}
use Rattle.dn_name.proofs.WireNameLemmas.{made, named, opened}
use Rattle.dn_name.proofs.name.Name.pushed.Goals as goal

pub returns-then-end-gt254 : goal.returns-then-end-gt254
returns-then-end-gt254 c =
    let is = opened c.self.inside c.args.self.now c.self.invariant c.self.view_is in
    sym (push_passes c.args.self.now c.args.label.now (omega (arith, is.len)))

pub invariant_of-result : goal.invariant_of-result
invariant_of-result c =
    let is = opened c.self.inside c.args.self.now c.self.invariant c.self.view_is in
    let start : c.from-start.result ≡ wire_len c.args.self.now = c.from-start.ensures ∙ is.len in
    made _ (c.args.self.now ++ c.args.label.now ∷ [])
    (name-push c.args.self.now c.args.label.now is.is c.requires (omega arith))
    (padded-push c.args.self.now c.args.label.now c.self.inside.wire _ _ _ is.wire start c.if-end-gt254.false (omega arith) c.copy_from_slice.ensures.after)
    (omega (arith, wire_len-push c.args.self.now c.args.label.now))

pub returns : goal.returns
returns c =
    let is = opened c.self.inside c.args.self.now c.self.invariant c.self.view_is in
    let start : c.from-start.result ≡ wire_len c.args.self.now = c.from-start.ensures ∙ is.len in
    ap Some (named (c.args.self.now ++ c.args.label.now ∷ [])
    (name-push c.args.self.now c.args.label.now is.is c.requires (omega arith)) _
    (padded-push c.args.self.now c.args.label.now c.self.inside.wire _ _ _ is.wire start c.if-end-gt254.false (omega arith) c.copy_from_slice.ensures.after))
    ∙ sym (push_fits c.args.self.now c.args.label.now (omega arith))
