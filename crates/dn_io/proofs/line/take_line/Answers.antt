use Rattle.std.proofs.Common.{◌≡◌, ◌<◌, true, length, rules}
use Rattle.dn_io.specs.Reading.{FeedFree, overlong}
use Rattle.dn_io.proofs.LineEndLemmas.{too_long-open}
use Rattle.dn_io.proofs.line.take_line.Goals as goal

pub returns-in-None-clause-takes : goal.returns-in-None-clause-takes
returns-in-None-clause-takes c =
    let bytes = c.args.held.now.items in
    let some : 0 < length bytes = search rules in
    let free : FeedFree bytes (length bytes) = search rules in
    let long : overlong c.args.taken.now (length bytes) (length bytes) ≡ true = search rules in
    too_long-open bytes c.args.taken.now some free long
