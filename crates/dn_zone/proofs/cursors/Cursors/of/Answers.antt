use Rattle.std.proofs.Common.{rules, ◌≡◌, ◌∙◌}
use Rattle.std.specs.Prelude.{unwrap_or}
use Rattle.std.specs.Map.{lookup}
use Rattle.dn_stamp.specs.Stamp.{is_id}
use Rattle.dn_zone.proofs.CursorLemmas.{found_in}
use Rattle.dn_zone.proofs.cursors.Cursors.of.Goals as goal

pub returns : goal.returns
returns c =
    let found : c.unwrap_or.result ≡ unwrap_or (lookup (is_id c.args.supplier) c.args.self.now) 0 = search rules in
    found ∙ found_in c.args.self.now c.args.supplier
