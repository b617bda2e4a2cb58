use Rattle.std.proofs.Common.{◌++◌, ◌∙◌, ap}
use Rattle.dn_record.specs.Fields.{four_big, four_little}
use Rattle.dn_record.proofs.WriteLemmas.{add_four}
use Rattle.dn_record.proofs.write.add_numbers.Goals as goal

pub returns : goal.returns
returns c =
    let item = c.args.item.now in
    add_four c.args.out.now (four_little item.serial) (four_big item.ttl) (four_little item.reserved) (four_little item.hour) c.extend.new.self c.extend-2.new.self c.extend-3.new.self
    (c.in_ok-extend.ensures.ok ∙ ap (λ xs. c.args.out.now ++ xs) c.four_little.ensures)
    (c.in_ok-extend-2.ensures.ok ∙ ap (λ xs. c.extend.new.self ++ xs) c.four_big.ensures)
    (c.in_ok-extend-3.ensures.ok ∙ ap (λ xs. c.extend-2.new.self ++ xs) c.four_little-2.ensures)
    c.extend-4.result c.four_little-3.result c.extend-4.new.self c.four_little-3.ensures c.extend-4.ensures.ok
