use Rattle.std.proofs.Common.{[], ◌∷◌, ◌++◌, ◌∙◌, ap}
use Rattle.dn_record.specs.Fields.{four_big, four_little, two_little}
use Rattle.dn_record.proofs.WriteLemmas.{add_five}
use Rattle.dn_record.proofs.write.add_header.Goals as goal

pub returns : goal.returns
returns c =
    let item = c.args.item.now in
    let numbers = four_little item.serial ++ (four_big item.ttl ++ (four_little item.reserved ++ four_little item.hour)) in
    add_five c.args.out.now (two_little c.args.len) (two_little item.rtype) (5 ∷ (item.rank ∷ [])) (two_little item.flags) c.extend.new.self c.extend-2.new.self c.extend-3.new.self
    (c.in_ok-extend.ensures.ok ∙ ap (λ xs. c.args.out.now ++ xs) c.two_little.ensures)
    (c.in_ok-extend-2.ensures.ok ∙ ap (λ xs. c.extend.new.self ++ xs) c.two_little-2.ensures)
    c.in_ok-extend-3.ensures.ok
    numbers c.extend-4.new.self
    (c.in_ok-extend-4.ensures.ok ∙ ap (λ xs. c.extend-3.new.self ++ xs) c.two_little-3.ensures)
    c.add_numbers.result c.add_numbers.new.out c.add_numbers.ensures
