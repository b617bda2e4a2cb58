-- Rows as text: a name, its time to live, its type and its data (RFC 1035 5.1).
use Rattle.std.specs.Prelude.{ℕ, List, ◌++◌, codes, decimal}
use Rattle.dn_name.specs.Name.{Labels}
use Rattle.dn_name.specs.Text.{text_of}
use Rattle.dn_text.specs.Fields.{fields_text}
use Rattle.dn_text.specs.Strings.{strings_text}
use Rattle.dn_text.specs.Table.{Form, Words, Texts, TwoTexts, form_of, type_text}

unfoldable pub formed_text : Form → List ℕ → List ℕ
formed_text (Words fields) rdata = fields_text fields rdata
formed_text Texts rdata = strings_text rdata
formed_text TwoTexts rdata = strings_text rdata

-- the text of data, by the form of their type
unfoldable pub data_text : ℕ → List ℕ → List ℕ
data_text rtype rdata = formed_text (form_of rtype) rdata

-- `NAME TTL TYPE DATA`
unfoldable pub row_text : Labels → ℕ → ℕ → List ℕ → List ℕ
row_text owner ttl rtype rdata = text_of owner ++ codes " " ++ decimal ttl ++ codes " " ++ type_text rtype ++ codes " " ++ data_text rtype rdata
