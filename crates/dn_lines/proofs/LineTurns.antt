-- How a run goes on line by line, whatever its command does with a line.
use Rattle.std.proofs.Common.{◌≡◌, ℕ, ◌+◌, Bool, true, false, List, [], ◌∷◌, ◌++◌, Option, Some, None, Result, Ok, Err, inl, inr, refl, ap, subst}
use Rattle.std.specs.Io.KnownBytes.{Appends}
use Rattle.dn_io.specs.declared.line.Line.{Line as ReadLine}
use Rattle.dn_io.specs.declared.line.Line.TheVariants.{Text, End}
use Rattle.dn_io.specs.declared.line.LineError.{LineError}
use Rattle.dn_io.specs.declared.line.LineError.TheVariants as errors
use Rattle.dn_io.specs.declared.status.Status.{Status}
use Rattle.dn_io.specs.declared.status.Status.TheVariants.{Done, BadLine, Usage, ReadFault, WriteFault, OutOfMemory, TooLong, LinkFault}
use Rattle.dn_io.specs.Lines.{Held, RawLine, ReadsLine, is_overlong, lines_of, size_of, text_of}
use Rattle.dn_io.specs.Outside.{AppendsFront, WhereTold}
use Rattle.dn_lines.specs.Said.{AtEnd, Bad, Ending, Long}
use Rattle.dn_lines.specs.Said.{EndedFrom, GivesIn, IsFrontWritten, IsSaid, IsWritten}
use Rattle.dn_lines.specs.Said.Turns.{EndedAhead, GivesText, GoesOn, RunEnds, Stops, Turns, status_of}
use Rattle.dn_lines.proofs.SinkLemmas.{appends-then, front-more, front-none, front-then, nothing_more, told_map, told_then}

-- ---- a line that gave its output

module _ {State : Type 0} (Line : GivesIn State) (state after : State) (number at : ℕ) (line : RawLine) (output : List ℕ) (fits : is_overlong at line ≡ false) (is : Line state (text_of line) (Some (after, output))) where
  said-more : (rest : List RawLine) (more : List ℕ) (ending : Ending) → IsSaid Line after (number + 1) (at + size_of line) rest more ending → IsSaid Line state number at (line ∷ rest) (output ++ more) ending
  said-more rest more ending said = inr (inr (fits, after, output, more, is, refl, said))

  -- the output of a line was written to a front of it
  output_cut : (rest : List RawLine) (before now : Option (List ℕ)) → AppendsFront before now output → IsFrontWritten Line state number at (line ∷ rest) before now
  output_cut rest before now wrote = (line ∷ [], rest, output ++ [], refl, said-more [] [] AtEnd (refl, refl), front-more before now output [] wrote)

  module _ (rest : List RawLine) (before mid : Option (List ℕ)) (wrote : Appends before mid output) where
    written-more : (ending : Ending) (last : Option (List ℕ)) → IsWritten Line after (number + 1) (at + size_of line) rest ending mid last → IsWritten Line state number at (line ∷ rest) ending before last
    written-more ending last (more, said, then) = (output ++ more, said-more rest more ending said, appends-then before mid last output more wrote then)

    front_written-more : (last : Option (List ℕ)) → IsFrontWritten Line after (number + 1) (at + size_of line) rest mid last → IsFrontWritten Line state number at (line ∷ rest) before last
    front_written-more last (front, back, more, parts, said, then) =
        (line ∷ front, back, output ++ more, ap (λ (lines : List RawLine). line ∷ lines) parts, said-more front more AtEnd said, front-then before mid last output more wrote then)

    -- what ends the rest ends the whole
    line_goes_on : GoesOn (EndedFrom Line state number at (line ∷ rest)) before (EndedFrom Line after (number + 1) (at + size_of line) rest) mid
    line_goes_on Done left last (none, then) = (none, written-more AtEnd last then)
    line_goes_on (BadLine bad) left last then = written-more (Bad bad) last then
    line_goes_on TooLong left last then = written-more Long last then
    line_goes_on ReadFault left last then = front_written-more last then
    line_goes_on WriteFault left last then = front_written-more last then
    line_goes_on OutOfMemory left last then = front_written-more last then
    line_goes_on Usage left last then = absurd then
    line_goes_on LinkFault left last then = absurd then

module _ {State : Type 0} (Line : GivesIn State) (state : State) (number : ℕ) where
  -- ---- where a run ends

  -- nothing was written, of no line
  front_written-none : (at : ℕ) (lines : List RawLine) (known : Option (List ℕ)) → IsFrontWritten Line state number at lines known known
  front_written-none at lines known = ([], lines, [], refl, (refl, refl), front-none known [])

  -- a line that isn't valid, or whose output wasn't written
  line_stops : (at : ℕ) (line : RawLine) (rest : List RawLine) (status : Status) (left : List ℕ) (before now : Option (List ℕ)) → is_overlong at line ≡ false
      → Stops status number (Line state (text_of line)) before now → EndedFrom Line state number at (line ∷ rest) status left before now
  line_stops at line rest (BadLine bad) left before now fits (here, none, same) = rw (here, same) ([], inr (inl (fits, none, refl, refl)), nothing_more before)
  line_stops at line rest WriteFault left before now fits (after, output, is, wrote) = output_cut Line state after number at line output fits is rest before now wrote
  line_stops at line rest OutOfMemory left before now fits same = rw same (front_written-none at (line ∷ rest) before)
  line_stops at line rest Done left before now fits stops = absurd stops
  line_stops at line rest Usage left before now fits stops = absurd stops
  line_stops at line rest ReadFault left before now fits stops = absurd stops
  line_stops at line rest TooLong left before now fits stops = absurd stops
  line_stops at line rest LinkFault left before now fits stops = absurd stops

  module _ (old new : Held) where
    -- ---- one turn, where the source tells

    -- the lines of what is ahead begin with the line that was read
    goes_on_read : (ahead rest text : List ℕ) (after : State) (before now : Option (List ℕ)) → ReadsLine old ahead (Ok (Text text)) new rest → GivesText (Ok tt) number (Line state text) after before now
        → GoesOn (EndedAhead Line state number old ahead) before (EndedAhead Line after (number + 1) new rest) now
    goes_on_read ahead rest text after before now (line, lines, fits, text_is, taken, none) (output, is, wrote) status left last ended =
        rw lines
        (line_goes_on Line state after number old.taken line output fits (subst (λ (its_text : List ℕ). Line state its_text (Some (after, output))) text_is is) (lines_of (new.bytes ++ rest)) before now wrote status left last
        (subst (λ (taken_now : ℕ). EndedFrom Line after (number + 1) taken_now (lines_of (new.bytes ++ rest)) status left now last) taken ended))

    stops_read : (ahead rest text : List ℕ) (status : Status) (before now : Option (List ℕ)) → ReadsLine old ahead (Ok (Text text)) new rest → Stops status number (Line state text) before now
        → EndedAhead Line state number old ahead status rest before now
    stops_read ahead rest text status before now (line, lines, fits, text_is, taken, none) stops =
        rw lines
        (line_stops old.taken line (lines_of (new.bytes ++ rest)) status rest before now fits (subst (λ (its_text : List ℕ). Stops status number (Line state its_text) before now) text_is stops))

    end_read : (ahead rest : List ℕ) (known : Option (List ℕ)) → ReadsLine old ahead (Ok End) new rest → EndedAhead Line state number old ahead Done rest known known
    end_read ahead rest known (none, same, left) = rw none (left, ([], (refl, refl), nothing_more known))

    fails_read : (ahead rest : List ℕ) (known : Option (List ℕ)) (error : LineError) → ReadsLine old ahead (Err error) new rest → EndedAhead Line state number old ahead (status_of error) rest known known
    fails_read ahead rest known errors.TooLong (line, lines, is, long) = rw is ([], inl (long, refl, refl), nothing_more known)
    fails_read ahead rest known errors.ReadFault read = front_written-none old.taken (lines_of (old.bytes ++ ahead)) known
    fails_read ahead rest known errors.OutOfMemory read = front_written-none old.taken (lines_of (old.bytes ++ ahead)) known

    -- ---- one turn

    module _ (s0 s1 w0 w1 : Option (List ℕ)) where
      -- a turn after this answer of the reader
      turned : (read : Result ReadLine LineError) (result : Result Bool Status) (Rest : List ℕ → RunEnds)
          → ((before now : List ℕ) → ReadsLine old before read new now → Turns result (EndedAhead Line state number old before) (Rest now) now w0 w1)
          → WhereTold s0 s1 (λ before now. ReadsLine old before read new now) → WhereTold s0 s1 (λ before now. Turns result (EndedAhead Line state number old before) (Rest now) now w0 w1)
      turned read result Rest =
          told_map s0 s1 (λ before now. ReadsLine old before read new now) (λ before now. Turns result (EndedAhead Line state number old before) (Rest now) now w0 w1)

      pub turn_done : (after : State) (text : List ℕ) → WhereTold s0 s1 (λ before now. ReadsLine old before (Ok (Text text)) new now) → GivesText (Ok tt) number (Line state text) after w0 w1
          → WhereTold s0 s1 (λ before now. Turns (Ok true) (EndedAhead Line state number old before) (EndedAhead Line after (number + 1) new now) now w0 w1)
      turn_done after text read gave =
          turned (Ok (Text text)) (Ok true) (EndedAhead Line after (number + 1) new) (λ before now line. goes_on_read before now text after w0 w1 line gave) read

      pub turn_stops : (text : List ℕ) (status : Status) (Rest : List ℕ → RunEnds) → WhereTold s0 s1 (λ before now. ReadsLine old before (Ok (Text text)) new now) → Stops status number (Line state text) w0 w1
          → WhereTold s0 s1 (λ before now. Turns (Err status) (EndedAhead Line state number old before) (Rest now) now w0 w1)
      turn_stops text status Rest read stops =
          turned (Ok (Text text)) (Err status) Rest (λ before now line. stops_read before now text status w0 w1 line stops) read

    pub turn_ends : (s0 s1 w : Option (List ℕ)) (Rest : List ℕ → RunEnds) → WhereTold s0 s1 (λ before now. ReadsLine old before (Ok End) new now)
        → WhereTold s0 s1 (λ before now. Turns (Ok false) (EndedAhead Line state number old before) (Rest now) now w w)
    turn_ends s0 s1 w Rest read =
        turned s0 s1 w w (Ok End) (Ok false) Rest (λ before now ends. end_read before now w ends) read

    pub turn_fails : (s0 s1 w : Option (List ℕ)) (error : LineError) (Rest : List ℕ → RunEnds) → WhereTold s0 s1 (λ before now. ReadsLine old before (Err error) new now)
        → WhereTold s0 s1 (λ before now. Turns (Err (status_of error)) (EndedAhead Line state number old before) (Rest now) now w w)
    turn_fails s0 s1 w error Rest read =
        turned s0 s1 w w (Err error) (Err (status_of error)) Rest (λ before now fails. fails_read before now w error fails) read

-- ---- all turns

-- the turns so far, and the last
pub turns_end : (s0 s1 s2 w0 w1 w2 : Option (List ℕ)) (status : Status) (Whole Mid : List ℕ → RunEnds)
    → WhereTold s0 s1 (λ before now. GoesOn (Whole before) w0 (Mid now) w1)
    → WhereTold s1 s2 (λ before now. Mid before status now w1 w2)
    → WhereTold s0 s2 (λ before now. Whole before status now w0 w2)
turns_end s0 s1 s2 w0 w1 w2 status Whole Mid so_far last =
    told_then s0 s1 s2 (λ before now. GoesOn (Whole before) w0 (Mid now) w1) (λ before now. Mid before status now w1 w2) (λ before now. Whole before status now w0 w2)
    (λ before between now goes ended. goes status now w2 ended) so_far last

-- a whole input, read through a new buffer
pub run_ended : {State : Type 0} (Line : GivesIn State) (state : State) (s0 s1 w0 w1 : Option (List ℕ)) (lines : Held) (status : Status) → lines ≡ (record { bytes = []; taken = 0; kept = None })
    → WhereTold s0 s1 (λ before now. EndedAhead Line state 1 lines before status now w0 w1)
    → WhereTold s0 s1 (λ before now. EndedFrom Line state 1 0 (lines_of before) status now w0 w1)
run_ended Line state s0 s1 w0 w1 lines status fresh read =
    told_map s0 s1 (λ before now. EndedAhead Line state 1 lines before status now w0 w1) (λ before now. EndedFrom Line state 1 0 (lines_of before) status now w0 w1)
    (λ before now ended. subst (λ (held : Held). EndedAhead Line state 1 held before status now w0 w1) fresh ended) read
