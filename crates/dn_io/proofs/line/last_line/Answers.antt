use Rattle.std.proofs.Common.{◌+◌, ◌<◌, ◌∙◌, length, rules}
use Rattle.dn_io.proofs.LineEndLemmas.{takes-last}
use Rattle.dn_io.proofs.line.last_line.Goals as goal

pub returns-clause-ends : goal.returns-clause-ends
returns-clause-ends c =
    let bytes = c.args.held.now.items in
    let some : 0 < length bytes = search rules in
    takes-last bytes c.in_ok-text.text c.clear.new.self.items c.args.taken.now (c.args.taken.now + c.len.result) some c.requires.free
    (c.requires.fits some) (c.in_ok-text.ensures.ok ∙ c.as_slice.ensures.value) c.clear.ensures.items (search rules)
