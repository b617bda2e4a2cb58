use Rattle.std.proofs.Common.{◌∙◌, sym}
use Rattle.dn_name.specs.Name.{lowered}
use Rattle.dn_name.proofs.LowerCaseLemmas.{name-lowered, padded-lowered, wire_len-lowered}
use Rattle.dn_name.proofs.WireNameLemmas.{made, named, opened}
use Rattle.dn_name.proofs.name.Name.lower.Goals as goal

pub invariant_of-result : goal.invariant_of-result
invariant_of-result c =
    let is = opened c.self.inside c.args.self.now c.self.invariant c.self.view_is in
    made _ (lowered c.args.self.now) (name-lowered c.args.self.now is.is)
    (padded-lowered c.args.self.now is.is _ _ is.wire c.make_ascii_lowercase.ensures.after)
    (is.len ∙ sym (wire_len-lowered c.args.self.now))

pub returns : goal.returns
returns c =
    let is = opened c.self.inside c.args.self.now c.self.invariant c.self.view_is in
    named (lowered c.args.self.now) (name-lowered c.args.self.now is.is) _
    (padded-lowered c.args.self.now is.is _ _ is.wire c.make_ascii_lowercase.ensures.after)
