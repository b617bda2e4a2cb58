use Rattle.std.proofs.Common.{sym, ◌∙◌, arith, length, length-take-le, []}
use Rattle.dn_name.specs.Wire.{labels_in}
use Rattle.dn_name.proofs.LabelWalkLemmas.{length-whole, length-root, over_root}
use Rattle.dn_name.proofs.WireNameLemmas.{made, named, opened}
use Rattle.dn_name.proofs.name.Name.from_wire.Goals as goal

pub slice_bounds-wire-end : goal.slice_bounds-wire-end
slice_bounds-wire-end c = omega (arith, length-whole c.args.bytes.now c.requires, c.requires.1.1)

pub slice_bounds-copy_from_slice-end : goal.slice_bounds-copy_from_slice-end
slice_bounds-copy_from_slice-end c =
    let is = opened c.zeros.inside [] c.zeros.invariant (c.zeros.view_is ∙ c.root-zeros.ensures) in
    sym (length-take-le (length c.args.bytes.now) c.zeros.inside.wire
    (omega (arith, length-whole c.args.bytes.now c.requires, c.requires.1.1, length-root c.zeros.inside.wire is.wire)))

pub copy_from_slice-requires : goal.copy_from_slice-requires
copy_from_slice-requires c =
    let is = opened c.zeros.inside [] c.zeros.invariant (c.zeros.view_is ∙ c.root-zeros.ensures) in
    length-take-le (length c.args.bytes.now) c.zeros.inside.wire
    (omega (arith, length-whole c.args.bytes.now c.requires, c.requires.1.1, length-root c.zeros.inside.wire is.wire))

pub invariant_of-result : goal.invariant_of-result
invariant_of-result c =
    let is = opened c.zeros.inside [] c.zeros.invariant (c.zeros.view_is ∙ c.root-zeros.ensures) in
    made _ (labels_in 128 c.args.bytes.now) c.requires.1
    (over_root c.args.bytes.now c.copy_from_slice.new.self c.zeros.inside.wire c.requires is.wire c.copy_from_slice.ensures.after)
    (length-whole c.args.bytes.now c.requires)

pub returns : goal.returns
returns c =
    let is = opened c.zeros.inside [] c.zeros.invariant (c.zeros.view_is ∙ c.root-zeros.ensures) in
    named (labels_in 128 c.args.bytes.now) c.requires.1 _
    (over_root c.args.bytes.now c.copy_from_slice.new.self c.zeros.inside.wire c.requires is.wire c.copy_from_slice.ensures.after)
