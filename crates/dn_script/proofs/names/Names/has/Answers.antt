use Rattle.std.proofs.Common.{◌∙◌, ap}
use Rattle.std.specs.List.{list_any}
use Rattle.dn_script.specs.Play.{is_named}
use Rattle.dn_script.proofs.NameLemmas.{any_seen}
use Rattle.dn_script.proofs.names.Names.has.Goals as goal

pub returns : goal.returns
returns c =
    c.contains.ensures ∙ any_seen (λ key. key.items) (is_named c.args.name.now) c.self.inside.set.keys
    ∙ ap (λ names. list_any (is_named c.args.name.now) names) c.self.view_is
