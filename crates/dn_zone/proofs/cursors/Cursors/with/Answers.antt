use Rattle.std.proofs.Common.{rules, ◌≡◌, false, nat_eq, ◌∙◌}
use Rattle.dn_zone.proofs.CursorLemmas.{put_in}
use Rattle.dn_zone.proofs.cursors.Cursors.with.Goals as goal

pub returns : goal.returns
returns c =
    let other : nat_eq c.of.result c.args.seen ≡ false = search rules in
    let same : c.moved.inside.map.entries ≡ c.args.self.now = search rules in
    c.in_ok-insert.ensures.entries ∙ put_in c.args.self.now c.moved.inside.map.entries c.args.supplier c.args.seen c.of.result same c.of.ensures other
