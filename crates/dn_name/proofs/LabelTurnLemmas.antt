-- What one turn of reading keeps of the facts on a label that is read.
use Rattle.std.proofs.Common.{◌≡◌, ℕ, ◌+◌, ◌≤◌, ◌<◌, Bool, true, false, nat_eq, nat_le, List, [], ◌∷◌, ◌++◌, length, take, None, Some, refl, sym, ◌∙◌, ap, arith, add-one, length-append}
use Rattle.std.proofs.Math.ListN.{set}
use Rattle.std.proofs.Math.Seq.{take-suc-set}
use Rattle.std.proofs.lemmas.List.{length-take}
use Rattle.dn_name.specs.Name.{Labels, wire_len, IsName}
use Rattle.dn_name.specs.Reading.{byte_in, completed, IsHopeless, IsPart, IsRead, IsUnread}
use Rattle.dn_name.specs.Text.{Outside, name_of_text}
use Rattle.dn_name.proofs.TextReadingLemmas.{reads_byte, reads_nothing, reads_dot, reads_end, reads_empty, label_too_long, name_too_long, wire_len-append, reads_all, reads_none}

pub part_more : (text bytes rest behind : List ℕ) (len byte : ℕ) → len < length bytes → len < 63 → IsPart text (take len bytes) rest
    → Some (byte, behind) ≡ byte_in Outside rest → length behind < length rest → IsPart text (take (len + 1) (set bytes len byte)) behind
part_more text bytes rest behind len byte within few part is less =
    let e : take (len + 1) (set bytes len byte) ≡ take len bytes ++ (byte ∷ []) = rw add-one (take-suc-set bytes len byte within) in
    let long : length (take (len + 1) (set bytes len byte)) ≡ len + 1 = rw e (omega (arith, length-append (take len bytes) (byte ∷ []), length-take len bytes)) in
    record {
      most = omega arith;
      less = omega (arith, part.less);
      some = λ h. omega arith;
      same = λ done. rw e (part.same done ∙ reads_byte done (take len bytes) rest byte behind is);
    }

pub part_full : (text bytes rest behind : List ℕ) (byte : ℕ) → 63 ≤ length bytes → IsPart text (take 63 bytes) rest
    → Some (byte, behind) ≡ byte_in Outside rest → IsHopeless text
part_full text bytes rest behind byte within part is done =
    part.same done ∙ reads_byte done (take 63 bytes) rest byte behind is
    ∙ label_too_long done (take 63 bytes ++ (byte ∷ [])) behind (omega (arith, length-append (take 63 bytes) (byte ∷ []), length-take 63 bytes))

read_end_at : (room : ℕ) (text label : List ℕ) → IsPart text label [] → 1 ≤ length text → length label < room → IsRead room text label []
read_end_at room text label part some room_left =
    let some_label : 1 ≤ length label = omega (arith, part.some some) in
    record {
      sized = (some_label, part.most);
      fits = omega arith;
      less = omega arith;
      same = λ done. part.same done ∙ reads_end done label some_label;
    }

pub read_end : (room : ℕ) (text label rest : List ℕ) → IsPart text label rest → length rest ≡ 0 → 1 ≤ length text
    → (1 ≤ length label → length label < room) → IsRead room text label rest
read_end room text label [] part none some room_left = read_end_at room text label part some (room_left (omega (arith, part.some some)))
read_end room text label (b ∷ rest) part none some room_left = absurd (omega arith)

pub read_dot : (room : ℕ) (text label rest behind : List ℕ) → rest ≡ 46 ∷ behind → IsPart text label rest → 1 ≤ length label → length label < room
    → IsRead room text label behind
read_dot room text label rest behind is part some room_left =
    let there : IsPart text label (46 ∷ behind) = rw is at part in
    record {
      sized = (some, part.most);
      fits = omega arith;
      less = omega (arith, there.less);
      same = λ done. there.same done ∙ reads_dot done label behind;
    }

pub unread_room : (room : ℕ) (text label rest : List ℕ) → IsPart text label rest → 1 ≤ length label → room ≤ length label → IsUnread room text
unread_room room text label rest part some long done full =
    part.same done ∙ name_too_long done label rest some (omega arith)

hopeless_at : (v : Bool) (text label : List ℕ) (b : ℕ) (rest : List ℕ) → nat_eq b 46 ≡ v → IsPart text label (b ∷ rest)
    → byte_in Outside (b ∷ rest) ≡ None → (b ≡ 46 → length label ≡ 0) → IsHopeless text
hopeless_at false text label b rest dot part stops empty done = part.same done ∙ reads_nothing done label b rest dot (sym stops)
hopeless_at true text [] b rest dot part stops empty done =
    let e : b ≡ 46 = grind arith in part.same done ∙ ap (λ x. completed done [] (x ∷ rest)) e ∙ reads_empty done rest
hopeless_at true text (a ∷ label) b rest dot part stops empty done =
    let e : b ≡ 46 = grind arith in absurd (omega (arith, empty e))

pub hopeless_rest : (text label rest : List ℕ) (b : ℕ) (behind : List ℕ) → rest ≡ b ∷ behind → IsPart text label rest
    → byte_in Outside rest ≡ None → (b ≡ 46 → length label ≡ 0) → IsHopeless text
hopeless_rest text label rest b behind is part stops =
    hopeless_at (nat_eq b 46) text label b behind refl (rw is at part) (rw is at stops)

-- a label for which there is room
pub pushes : (name : Labels) (label : List ℕ) → wire_len name + length label + 1 ≤ 255 → nat_le (wire_len (name ++ (label ∷ []))) 255 ≡ true
pushes name label fits =
    let short : wire_len (name ++ (label ∷ [])) ≤ 255 = omega (arith, wire_len-append name (label ∷ [])) in grind arith

-- the end of a text
no_rest : (rest : List ℕ) → length rest ≡ 0 → rest ≡ []
no_rest [] none = refl
no_rest (b ∷ rest) none = absurd (omega arith)

pub ends_named : (text : List ℕ) (name : Labels) (rest : List ℕ) → name_of_text text ≡ completed name [] rest → length rest ≡ 0
    → IsName name → 1 < wire_len name → Some name ≡ name_of_text text
ends_named text name rest is none named long =
    sym (is ∙ ap (completed name []) (no_rest rest none) ∙ reads_all name named long)

pub ends_unnamed : (text : List ℕ) (name : Labels) (rest : List ℕ) → name_of_text text ≡ completed name [] rest → length rest ≡ 0
    → wire_len name ≤ 1 → None ≡ name_of_text text
ends_unnamed text name rest is none short =
    sym (is ∙ ap (completed name []) (no_rest rest none) ∙ reads_none name short)
