use Rattle.std.proofs.Common.{ℕ, ◌-◌, List, arith}
use Rattle.dn_rdata.specs.Laid.{Lies}
use Rattle.dn_rdata.specs.declared.parts.Part.TheVariants.{Bytes, Rest}
use Rattle.dn_message.proofs.GrowingLemmas.{bytes_of_rest, grows_alike, rest_of}
use Rattle.dn_message.proofs.rdata.add_rest.Goals as goal

pub returns-clause-grows : goal.returns-clause-grows
returns-clause-grows c =
    let message = c.args.bytes.now in
    let at = c.args.at in
    let end = c.args.end in
    grows_alike (λ (found : List ℕ × ℕ). Lies message at end (Bytes (end - at)) found.0 found.1) (λ (found : List ℕ × ℕ). Lies message at end Rest found.0 found.1)
    (rest_of message at end (omega arith)) (bytes_of_rest message at end (omega arith)) c.args.out.now c.add_bytes.new.out c.add_bytes.result (c.add_bytes.ensures.grows end)
