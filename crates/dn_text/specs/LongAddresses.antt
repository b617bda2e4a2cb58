-- Addresses of IPv6 as text: eight groups of hex digits (RFC 4291 2.2).
use Rattle.std.specs.Prelude.{ℕ, ◌+◌, ◌-◌, ◌&&◌, Bool, false, nat_eq, nat_le, if◌then◌else◌, List, [], ◌∷◌, ◌++◌, codes, length, take, drop, replicate, Option, None, Some}
use Rattle.std.specs.List.{slice_split}
use Rattle.std.specs.Result.{result_ok}
use Rattle.hex.specs.Hex.{decode_sized}
use Rattle.dn_io.specs.Options.{◌>>=◌}
use Rattle.dn_word.specs.Hex.{hex_text}

-- ---- printing

-- the groups of bytes, two bytes and four digits each, each behind a colon
unfoldable pub groups_behind : List ℕ → List ℕ
groups_behind [] = []
groups_behind (byte ∷ []) = []
groups_behind (high ∷ low ∷ bytes) = codes ":" ++ hex_text (high ∷ low ∷ []) ++ groups_behind bytes

-- the groups with a colon between each two
unfoldable pub groups_text : List ℕ → List ℕ
groups_text [] = []
groups_text (byte ∷ []) = []
groups_text (high ∷ low ∷ bytes) = hex_text (high ∷ low ∷ []) ++ groups_behind bytes

-- ---- reading

-- the two bytes of one to four hex digits of either case
unfoldable pub group_of : List ℕ → Option (List ℕ)
group_of [] = None
group_of (d ∷ []) = result_ok (decode_sized (48 ∷ 48 ∷ 48 ∷ d ∷ []) 2)
group_of (c ∷ d ∷ []) = result_ok (decode_sized (48 ∷ 48 ∷ c ∷ d ∷ []) 2)
group_of (b ∷ c ∷ d ∷ []) = result_ok (decode_sized (48 ∷ b ∷ c ∷ d ∷ []) 2)
group_of (a ∷ b ∷ c ∷ d ∷ []) = result_ok (decode_sized (a ∷ b ∷ c ∷ d ∷ []) 2)
group_of (a ∷ b ∷ c ∷ d ∷ e ∷ word) = None

-- the bytes of groups behind those of others, where each word is a group
unfoldable pub groups_from : List ℕ → List (List ℕ) → Option (List ℕ)
groups_from done [] = Some done
groups_from done (word ∷ words) = do
  group ← group_of word
  groups_from (done ++ group) words

-- the bytes of groups with a colon between each two; of no text there are none
unfoldable pub groups_of : List ℕ → Option (List ℕ)
groups_of text = if nat_eq (length text) 0 then Some [] else groups_from [] (slice_split (λ byte. nat_eq byte 58) text)

-- the bytes of an address without `::`
unfoldable pub whole_groups : List ℕ → Option (List ℕ)
whole_groups word = do
  groups ← groups_of word
  if nat_eq (length groups) 16 then Some groups else None

-- zeros between these bytes, one group of them or more, so that they are 16
unfoldable pub filled : List ℕ → List ℕ → Option (List ℕ)
filled front back =
    if nat_le (length front + length back) 14 then Some (front ++ (replicate (16 - (length front + length back)) 0 ++ back)) else None

-- the bytes of an address with `::` between these texts, which stands for one or more groups of zeros
unfoldable pub cut_groups : List ℕ → List ℕ → Option (List ℕ)
cut_groups before behind = do
  front ← groups_of before
  back ← groups_of behind
  filled front back

-- The place of the second colon of the first `::`, where so many bytes are seen, and `colon` says whether the last of them is
-- one.
unfoldable pub double_from : ℕ → Bool → List ℕ → Option ℕ
double_from seen colon [] = None
double_from seen colon (byte ∷ text) = if colon && nat_eq byte 58 then Some seen else double_from (seen + 1) (nat_eq byte 58) text

abbrev pub groups_around : List ℕ → Option ℕ → Option (List ℕ)
groups_around word None = whole_groups word
groups_around word (Some place) = cut_groups (take (place - 1) word) (drop (place + 1) word)

-- An address of IPv6: eight groups of one to four hex digits of either case, joined by colons, or fewer of them with one `::`
-- for the others, which are zero.
unfoldable pub long_address_of : List ℕ → Option (List ℕ)
long_address_of word = groups_around word (double_from 0 false word)
