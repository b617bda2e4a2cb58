use Rattle.std.proofs.Common.{◌≡◌, ◌++◌, drop}
use Rattle.dn_text.specs.Fields.{fields_behind}
use Rattle.dn_text.proofs.field.push_fields_behind.Given as goal

abbrev pub invariant-loop-field : goal.invariant-loop-field
invariant-loop-field l = l.out ++ fields_behind (drop l.field-index l.fields) l.rest ≡ l.initial.out ++ fields_behind l.fields l.bytes
