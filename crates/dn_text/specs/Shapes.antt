-- What the form of a text is that a call answers, and what the rows of the code's tables say.
use Rattle.dn_text.specs.PropertyTable.{Named}
use Rattle.dn_text.specs.declared.property_table.Named.{Named as PropertyRow}
use Rattle.dn_text.specs.Table.{Form, Known, Words, Texts, TwoTexts}
use Rattle.dn_text.specs.declared.table.Form.{Form as Answer}
use Rattle.dn_text.specs.declared.table.Form.TheVariants as answers
use Rattle.dn_text.specs.declared.table.Known.{Known as TypeRow}

abbrev pub shape : Answer → Form
shape (answers.Words fields) = Words fields.now
shape answers.Texts = Texts
shape answers.TwoTexts = TwoTexts

abbrev pub type_entry : TypeRow → Known
type_entry row = record { number = row.number; name = row.name.now; form = shape row.form }

abbrev pub property : PropertyRow → Named
property row = record { id = row.id; name = row.name.now }
