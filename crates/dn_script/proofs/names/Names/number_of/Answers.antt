use Rattle.std.proofs.Common.{◌∙◌, ap}
use Rattle.std.specs.Prelude.{position}
use Rattle.dn_script.specs.Play.{is_named}
use Rattle.dn_script.proofs.NameLemmas.{position_seen}
use Rattle.dn_script.proofs.names.Names.number_of.Goals as goal

pub returns : goal.returns
returns c =
    c.get_index_of.ensures.index ∙ position_seen (λ key. key.items) (is_named c.args.name.now) c.self.inside.set.keys
    ∙ ap (λ names. position (is_named c.args.name.now) names) c.self.view_is
