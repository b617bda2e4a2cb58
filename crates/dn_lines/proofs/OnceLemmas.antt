-- What lines give is one text with one end.
use Rattle.std.proofs.Common.{◌≡◌, ℕ, ◌+◌, true≢false, List, [], ◌∷◌, ◌++◌, Option, Some, None, inl, inr, refl, sym, ap, ap₂, subst, ◌∙◌}
use Rattle.dn_io.specs.Lines.{RawLine, lines_of, size_of, text_of}
use Rattle.dn_property.specs.FirstFault.{FirstFaultIsOne as FirstPropertyFaultIsOne}
use Rattle.dn_property.specs.Laws.{HasOneSpelling, IsSpelledOnce}
use Rattle.dn_record.specs.FirstFault.{FirstFaultIsOne}
use Rattle.dn_record.specs.Layout.{RecordIsReadOnce, RecordIsWrittenOnce}
use Rattle.dn_word.specs.Print.{as_line}
use Rattle.dn_word.specs.Words.{words_of}
use Rattle.dn_lines.specs.declared.value.Stored.{Stored}
use Rattle.dn_lines.specs.declared.value.Stored.TheVariants as stored
use Rattle.dn_lines.specs.declared.value.Value.{Value}
use Rattle.dn_lines.specs.declared.value.Value.TheVariants as values
use Rattle.dn_lines.specs.Said.{Ending}
use Rattle.dn_lines.specs.Said.{Gives, IsSaid, IsSaidOnce, by_itself}
use Rattle.dn_lines.specs.ValueLaws.{Laws}
use Rattle.dn_lines.specs.Values.{IsFault, IsPacked, IsShown, IsShownAs, IsValue, property_fault_text, record_fault_text, stored_of, stored_text, value_of, value_text}

-- ---- lines

-- each text gives one output at most
abbrev pub GivesOnce : Gives → Type 0
GivesOnce Line = (text : List ℕ) (one other : Option (List ℕ)) → Line text one → Line text other → one ≡ other

same_output : (one other : List ℕ) → Some one ≡ Some other → one ≡ other
same_output one other same = cc

same_text : (one other more rest text another : List ℕ) → text ≡ one ++ more → another ≡ other ++ rest → one ≡ other → more ≡ rest → text ≡ another
same_text one other more rest text another a b c d = a ∙ ap₂ (λ (x y : List ℕ). x ++ y) c d ∙ sym b

said_once : (Line : Gives) → GivesOnce Line → (lines : List RawLine) (x y : Unit {0}) (number at : ℕ) (text other : List ℕ) (ending another : Ending)
    → IsSaid (by_itself Line) x number at lines text ending → IsSaid (by_itself Line) y number at lines other another → (text ≡ other) × (ending ≡ another)
said_once Line once [] x y number at text other ending another (a, b) (c, d) = (a ∙ sym c, b ∙ sym d)
said_once Line once (line ∷ rest) x y number at text other ending another (inl (long, a, b)) (inl (also, c, d)) = (a ∙ sym c, b ∙ sym d)
said_once Line once (line ∷ rest) x y number at text other ending another (inl (long, a, b)) (inr (inl (fits, none, c, d))) = absurd (true≢false (sym long ∙ fits))
said_once Line once (line ∷ rest) x y number at text other ending another (inl (long, a, b)) (inr (inr (fits, after, output, more, is, c, said))) = absurd (true≢false (sym long ∙ fits))
said_once Line once (line ∷ rest) x y number at text other ending another (inr (inl (fits, none, a, b))) (inl (long, c, d)) = absurd (true≢false (sym long ∙ fits))
said_once Line once (line ∷ rest) x y number at text other ending another (inr (inl (fits, none, a, b))) (inr (inl (also, nor, c, d))) = (a ∙ sym c, b ∙ sym d)
said_once Line once (line ∷ rest) x y number at text other ending another (inr (inl (fits, none, a, b))) (inr (inr (also, after, output, more, is, c, said))) =
    let same : None ≡ Some output = once (text_of line) None (Some output) none is in absurd (cc)
said_once Line once (line ∷ rest) x y number at text other ending another (inr (inr (fits, after, output, more, is, a, said))) (inl (long, c, d)) = absurd (true≢false (sym long ∙ fits))
said_once Line once (line ∷ rest) x y number at text other ending another (inr (inr (fits, after, output, more, is, a, said))) (inr (inl (also, none, c, d))) =
    let same : None ≡ Some output = once (text_of line) None (Some output) none is in absurd (cc)
said_once Line once (line ∷ rest) x y number at text other ending another (inr (inr (fits, after, one, more, is, a, said))) (inr (inr (also, later, two, others, are, c, told))) =
    let rests = said_once Line once rest after later (number + 1) (at + size_of line) more others ending another said told in
    (same_text one two more others text other a c (same_output one two (once (text_of line) (Some one) (Some two) is are)) rests.0, rests.1)

pub texts_once : (Line : Gives) → GivesOnce Line → IsSaidOnce Line
texts_once Line once bytes text other ending another said told = said_once Line once (lines_of bytes) tt tt 1 0 text other ending another said told

-- ---- values

same_stored : (one other : Stored) (there : Option Stored) → there ≡ Some one → there ≡ Some other → one ≡ other
same_stored one other there a b = cc

same_value : (one other : Value) (there : Option Value) → there ≡ Some one → there ≡ Some other → one ≡ other
same_value one other there a b = cc

-- bytes are one value at most
value_once : RecordIsReadOnce → IsSpelledOnce → (bytes : Stored) (one other : Value) → IsValue bytes one → IsValue bytes other → one ≡ other
value_once records properties (stored.Record bytes) (values.Record one) (values.Record other) a b = ap values.Record (records bytes one other a b)
value_once records properties (stored.Record bytes) (values.Record one) (values.Property other) a b = absurd b
value_once records properties (stored.Record bytes) (values.Property one) other a b = absurd a
value_once records properties (stored.Property bytes) (values.Property one) (values.Property other) a b = ap values.Property (properties bytes one other a b)
value_once records properties (stored.Property bytes) (values.Property one) (values.Record other) a b = absurd b
value_once records properties (stored.Property bytes) (values.Record one) other a b = absurd a

-- a value has one spelling
bytes_once : RecordIsWrittenOnce → HasOneSpelling → (value : Value) (one other : Stored) → IsValue one value → IsValue other value → one ≡ other
bytes_once records properties (values.Record item) (stored.Record one) (stored.Record other) a b = ap stored.Record (records one other item a b)
bytes_once records properties (values.Record item) (stored.Record one) (stored.Property other) a b = absurd b
bytes_once records properties (values.Record item) (stored.Property one) other a b = absurd a
bytes_once records properties (values.Property item) (stored.Property one) (stored.Property other) a b = ap stored.Property (properties item one other a b)
bytes_once records properties (values.Property item) (stored.Property one) (stored.Record other) a b = absurd b
bytes_once records properties (values.Property item) (stored.Record one) other a b = absurd a

-- what is wrong first has one text
fault_once : FirstFaultIsOne → FirstPropertyFaultIsOne → (bytes : Stored) (one other : List ℕ) → IsFault bytes one → IsFault bytes other → one ≡ other
fault_once records properties (stored.Record bytes) one other (kind, place, is, a) (another, spot, also, b) =
    let same = records.one bytes kind another place spot is also in
    a ∙ ap₂ record_fault_text same.0 same.1 ∙ sym b
fault_once records properties (stored.Property bytes) one other (kind, place, is, a) (another, spot, also, b) =
    let same = properties.one bytes kind another place spot is also in
    a ∙ ap₂ property_fault_text same.0 same.1 ∙ sym b

-- bytes with which something is wrong are no value
no_value : FirstFaultIsOne → FirstPropertyFaultIsOne → (bytes : Stored) (value : Value) (text : List ℕ) → IsFault bytes text → IsValue bytes value → ⊥
no_value records properties (stored.Record bytes) (values.Record item) text (kind, place, is, a) value_is = records.none bytes kind place item is value_is
no_value records properties (stored.Record bytes) (values.Property item) text fault value_is = value_is
no_value records properties (stored.Property bytes) (values.Record item) text fault value_is = value_is
no_value records properties (stored.Property bytes) (values.Property item) text (kind, place, is, a) value_is = properties.none bytes kind place item is value_is

shown_as_once : Laws → (bytes : Stored) (one other : List ℕ) → IsShownAs bytes one → IsShownAs bytes other → one ≡ other
shown_as_once laws bytes one other (inl (value, is, a)) (inl (another, also, b)) =
    a ∙ ap value_text (value_once laws.read_once laws.spelled_once bytes value another is also) ∙ sym b
shown_as_once laws bytes one other (inl (value, is, a)) (inr fault) = absurd (no_value laws.record_faults laws.property_faults bytes value other fault is)
shown_as_once laws bytes one other (inr fault) (inl (value, is, b)) = absurd (no_value laws.record_faults laws.property_faults bytes value one fault is)
shown_as_once laws bytes one other (inr fault) (inr another) = fault_once laws.record_faults laws.property_faults bytes one other fault another

-- ---- a line of `show`, and of `pack`

shown_line_once : Laws → (bytes same : Stored) (text other : List ℕ) → bytes ≡ same → IsShownAs bytes text → IsShownAs same other → Some (as_line text) ≡ Some (as_line other)
shown_line_once laws bytes same text other is a b =
    ap (λ (line : List ℕ). Some (as_line line)) (shown_as_once laws bytes text other a (subst (λ (its : Stored). IsShownAs its other) (sym is) b))

pub shown_once : Laws → GivesOnce IsShown
shown_once laws line None None a b = refl
shown_once laws line None (Some output) (does, none) (inl (nothing, is)) = absurd (true≢false (sym nothing ∙ does))
shown_once laws line None (Some output) (does, none) (inr (also, bytes, text, found, is, out)) = absurd (cc)
shown_once laws line (Some output) None (inl (nothing, is)) (does, none) = absurd (true≢false (sym nothing ∙ does))
shown_once laws line (Some output) None (inr (also, bytes, text, found, is, out)) (does, none) = absurd (cc)
shown_once laws line (Some one) (Some other) (inl (nothing, is)) (inl (also, are)) = ap Some (is ∙ sym are)
shown_once laws line (Some one) (Some other) (inl (nothing, is)) (inr (does, bytes, text, found, its, out)) = absurd (true≢false (sym nothing ∙ does))
shown_once laws line (Some one) (Some other) (inr (does, bytes, text, found, its, out)) (inl (nothing, is)) = absurd (true≢false (sym nothing ∙ does))
shown_once laws line (Some one) (Some other) (inr (does, bytes, text, found, is, out)) (inr (also, same, another, there, are, outs)) =
    ap Some out ∙ shown_line_once laws bytes same text another (same_stored bytes same (stored_of (words_of line)) found there) is are ∙ sym (ap Some outs)

packed_line_once : Laws → (value same : Value) (bytes other : Stored) → value ≡ same → IsValue bytes value → IsValue other same → Some (as_line (stored_text bytes)) ≡ Some (as_line (stored_text other))
packed_line_once laws value same bytes other is a b =
    ap (λ (its : Stored). Some (as_line (stored_text its))) (bytes_once laws.written_once laws.one_spelling value bytes other a (subst (λ (item : Value). IsValue other item) (sym is) b))

pub packed_once : Laws → GivesOnce IsPacked
packed_once laws line None None a b = refl
packed_once laws line None (Some output) (does, none) (inl (nothing, is)) = absurd (true≢false (sym nothing ∙ does))
packed_once laws line None (Some output) (does, none) (inr (also, value, bytes, found, is, out)) = absurd (cc)
packed_once laws line (Some output) None (inl (nothing, is)) (does, none) = absurd (true≢false (sym nothing ∙ does))
packed_once laws line (Some output) None (inr (also, value, bytes, found, is, out)) (does, none) = absurd (cc)
packed_once laws line (Some one) (Some other) (inl (nothing, is)) (inl (also, are)) = ap Some (is ∙ sym are)
packed_once laws line (Some one) (Some other) (inl (nothing, is)) (inr (does, bytes, text, found, its, out)) = absurd (true≢false (sym nothing ∙ does))
packed_once laws line (Some one) (Some other) (inr (does, bytes, text, found, its, out)) (inl (nothing, is)) = absurd (true≢false (sym nothing ∙ does))
packed_once laws line (Some one) (Some other) (inr (does, value, bytes, found, is, out)) (inr (also, same, others, there, are, outs)) =
    ap Some out ∙ packed_line_once laws value same bytes others (same_value value same (value_of line) found there) is are ∙ sym (ap Some outs)
