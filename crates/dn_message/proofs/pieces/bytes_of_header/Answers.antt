use Rattle.std.proofs.Common.{◌≡◌, ◌∷◌, [], ◌∙◌, ap, rules, slice_index_or}
use Rattle.dn_message.specs.Fields.{two_bytes}
use Rattle.dn_message.specs.Pieces.{begun, flags_of}
use Rattle.dn_message.proofs.pieces.bytes_of_header.Goals as goal

-- each number by itself: the twelve cells at once pass a limit
pub returns : goal.returns
returns c =
    let id : c.to_be_bytes.result ≡ two_bytes c.args.head.id = search rules in
    let flags : c.to_be_bytes-2.result ≡ two_bytes c.flags_of.result = search rules in
    let says : c.to_be_bytes-2.result ≡ two_bytes (flags_of (begun c.args.head)) = flags ∙ ap two_bytes c.flags_of.ensures in
    let questions : c.to_be_bytes-3.result ≡ two_bytes c.args.counts.questions = search rules in
    let answer : c.to_be_bytes-4.result ≡ two_bytes c.args.counts.answer = search rules in
    let authority : c.to_be_bytes-5.result ≡ two_bytes c.args.counts.authority = search rules in
    let additional : c.to_be_bytes-6.result ≡ two_bytes c.args.counts.additional = search rules in
    λ i.
    slice_index_or (id i) 0 0
    ∷ (slice_index_or (id i) 1 0
    ∷ (slice_index_or (says i) 0 0
    ∷ (slice_index_or (says i) 1 0
    ∷ (slice_index_or (questions i) 0 0
    ∷ (slice_index_or (questions i) 1 0
    ∷ (slice_index_or (answer i) 0 0
    ∷ (slice_index_or (answer i) 1 0
    ∷ (slice_index_or (authority i) 0 0
    ∷ (slice_index_or (authority i) 1 0
    ∷ (slice_index_or (additional i) 0 0
    ∷ (slice_index_or (additional i) 1 0
    ∷ [])))))))))))
