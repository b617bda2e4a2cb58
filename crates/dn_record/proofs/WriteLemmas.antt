-- Pieces that are added one behind another, and the record that they are.
use Rattle.std.proofs.Common.{◌≡◌, ℕ, List, ◌++◌, length, Result, Ok, Err, OnOk, ap, ◌∙◌, append_assoc}
use Rattle.dn_io.specs.declared.duplicate.OutOfMemory.{OutOfMemory}
use Rattle.dn_rdata.specs.Stored.{IsStored}
use Rattle.dn_rdata.specs.declared.record.Record.{Record}
use Rattle.dn_record.specs.Layout.{IsRecord, header_of}

-- one piece more behind those that are to follow
grown : (old piece between rest new : List ℕ) → between ≡ old ++ piece → new ≡ between ++ rest → new ≡ old ++ (piece ++ rest)
grown old piece between rest new first more = more ∙ ap (λ xs. xs ++ rest) first ∙ append_assoc old piece rest

module _ (old a b c d one two three : List ℕ) (first : one ≡ old ++ a) (second : two ≡ one ++ b) (third : three ≡ two ++ c) where
  four : (new : List ℕ) → new ≡ three ++ d → new ≡ old ++ (a ++ (b ++ (c ++ d)))
  four new last = grown old a one (b ++ (c ++ d)) new first (grown one b two (c ++ d) new second (grown two c three d new third last))

  -- the last of four pieces is added, or memory isn't to be had
  pub add_four : (added : Result (Unit {0}) OutOfMemory) (piece new : List ℕ) → piece ≡ d → OnOk added (new ≡ three ++ piece) → OnOk added (new ≡ old ++ (a ++ (b ++ (c ++ d))))
  add_four (Ok done) piece new is last = four new (last ∙ ap (λ xs. three ++ xs) is)
  add_four (Err refused) piece new is last = tt

  -- the last of five
  pub add_five : (last more : List ℕ) → more ≡ three ++ d → (added : Result (Unit {0}) OutOfMemory) (new : List ℕ) → OnOk added (new ≡ more ++ last)
      → OnOk added (new ≡ old ++ (a ++ (b ++ (c ++ (d ++ last)))))
  add_five last more fourth (Ok done) new is =
      grown old a one (b ++ (c ++ (d ++ last))) new first
      (grown one b two (c ++ (d ++ last)) new second (grown two c three (d ++ last) new third (grown three d more last new fourth is)))
  add_five last more fourth (Err refused) new is = tt

pub written : (item : Record) (len : ℕ) (header stored out : List ℕ) → header ≡ header_of item len → out ≡ header ++ stored → IsStored item.rtype stored item.rdata → len ≡ length stored
    → IsRecord out item
written item len header stored out front all is size =
    record {
      stored = stored;
      bytes_are = all ∙ ap (λ xs. xs ++ stored) (front ∙ ap (header_of item) size);
      data_is = is;
    }
