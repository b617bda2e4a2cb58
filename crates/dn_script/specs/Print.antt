-- What a script prints of answers.
use Rattle.std.specs.Prelude.{ℕ, List, [], ◌∷◌, codes}
use Rattle.dn_word.specs.Hex.{hex_text}
use Rattle.dn_word.specs.Print.{count_text}

unfoldable pub packet_text : ℕ → List ℕ
packet_text number = count_text (codes "packet ") number

-- the bytes that came back to a datagram, `silent` for none
unfoldable pub datagram_text : List ℕ → List ℕ
datagram_text [] = codes "silent"
datagram_text (byte ∷ bytes) = hex_text (byte ∷ bytes)
