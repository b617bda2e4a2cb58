-- What the lines of a script give to a replay is their play.
use Rattle.std.proofs.Common.{◌≡◌, ℕ, ◌+◌, List, [], ◌∷◌, ◌++◌, Option, inl, inr, sym, ap, subst, ◌∙◌, append_assoc}
use Rattle.std.specs.Io.KnownBytes.{Appends}
use Rattle.dn_io.specs.declared.status.Status.{Status}
use Rattle.dn_io.specs.declared.status.Status.TheVariants.{Done, BadLine, Usage, ReadFault, WriteFault, OutOfMemory, TooLong, LinkFault}
use Rattle.dn_io.specs.Lines.{RawLine, lines_of, size_of}
use Rattle.dn_io.specs.Outside.{AppendsFront, WhereTold}
use Rattle.dn_script.specs.declared.script.Script.{Script}
use Rattle.dn_script.specs.Play.{Ended, opening, play, play_lines}
use Rattle.dn_lines.specs.Said.{AtEnd, Bad, Ending, Long}
use Rattle.dn_script.specs.Play.Stepped.{Replays}
use Rattle.dn_lines.specs.Said.{EndedFrom, IsFrontWritten, IsSaid, IsWritten}
use Rattle.dn_lines.proofs.CallerLemmas.{front-more, told_map}

-- what lines give is the text of their play, which ends so
said_play : (lines : List RawLine) (script : Script) (number at : ℕ) (text : List ℕ) (ending : Ending) → IsSaid Replays script number at lines text ending
    → ((play_lines number at lines script).ending ≡ ending) × ((play_lines number at lines script).text ≡ text)
unfolding play_lines
said_play [] script number at text ending (none, end) = (sym end, sym none)
said_play (line ∷ rest) script number at text ending (inl (long, none, end)) = rw long (sym end, sym none)
said_play (line ∷ rest) script number at text ending (inr (inl (fits, is, none, end))) = rw (fits, is) (sym end, sym none)
said_play (line ∷ rest) script number at text ending (inr (inr (fits, after, output, more, is, parts, said))) =
    let later = said_play rest after (number + 1) (at + size_of line) more ending said in
    rw (fits, is) (later.0, ap (λ (behind : List ℕ). output ++ behind) later.1 ∙ sym parts)

-- and what a front of them gives is a front of it
front_play : (front back : List RawLine) (script : Script) (number at : ℕ) (text : List ℕ) → IsSaid Replays script number at front text AtEnd
    → (more : List ℕ) × ((play_lines number at (front ++ back) script).text ≡ text ++ more)
unfolding play_lines
front_play [] back script number at text (none, end) =
    let more : List ℕ = (play_lines number at back script).text in
    (more, ap (λ (before : List ℕ). before ++ more) (sym none))
front_play (line ∷ front) back script number at text (inl (long, none, end)) = absurd (cc)
front_play (line ∷ front) back script number at text (inr (inl (fits, is, none, end))) = absurd (cc)
front_play (line ∷ front) back script number at text (inr (inr (fits, after, output, rest, is, parts, said))) =
    let later = front_play front back after (number + 1) (at + size_of line) rest said in
    (later.0, rw (fits, is, parts) (ap (λ (behind : List ℕ). output ++ behind) later.1 ∙ sym (append_assoc output rest later.0)))

module _ (lines : List RawLine) (script : Script) (number at : ℕ) (before now : Option (List ℕ)) where
  written_play : (ending : Ending) → IsWritten Replays script number at lines ending before now
      → ((play_lines number at lines script).ending ≡ ending) × Appends before now (play_lines number at lines script).text
  written_play ending (text, said, wrote) =
      let is = said_play lines script number at text ending said in
      (is.0, subst (λ (its : List ℕ). Appends before now its) (sym is.1) wrote)

  front_written_play : IsFrontWritten Replays script number at lines before now → AppendsFront before now (play_lines number at lines script).text
  front_written_play (front, back, text, parts, said, wrote) =
      let is = front_play front back script number at text said in
      rw (parts, is.1) (front-more before now text is.0 wrote)

  ended_play : (status : Status) (left : List ℕ) → EndedFrom Replays script number at lines status left before now → Ended (play_lines number at lines script) status left before now
  ended_play Done left (none, written) = let is = written_play AtEnd written in (is.0, none, is.1)
  ended_play (BadLine line) left written = written_play (Bad line) written
  ended_play TooLong left written = written_play Long written
  ended_play ReadFault left written = front_written_play written
  ended_play WriteFault left written = front_written_play written
  ended_play OutOfMemory left written = front_written_play written
  ended_play Usage left ended = absurd ended
  ended_play LinkFault left ended = absurd ended

-- a run over a whole script is its play
pub replay_ended : (s0 s1 w0 w1 : Option (List ℕ)) (script : Script) (status : Status) → script ≡ opening
    → WhereTold s0 s1 (λ before now. EndedFrom Replays script 1 0 (lines_of before) status now w0 w1)
    → WhereTold s0 s1 (λ before now. Ended (play before) status now w0 w1)
unfolding play
replay_ended s0 s1 w0 w1 script status start read =
    told_map s0 s1 (λ before now. EndedFrom Replays script 1 0 (lines_of before) status now w0 w1) (λ before now. Ended (play before) status now w0 w1)
    (λ before now ended. ended_play (lines_of before) opening 1 0 w0 w1 status now (subst (λ (first : Script). EndedFrom Replays first 1 0 (lines_of before) status now w0 w1) start ended)) read
