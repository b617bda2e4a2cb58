use Rattle.std.proofs.Common.{◌∙◌, ◌+◌, [], ap, drop, get_or, take}
use Rattle.std.proofs.lemmas.List.{get_or_read}
use Rattle.dn_pages.proofs.JoinedLemmas.{page_split, split_back, split_front, split_is}
use Rattle.dn_pages.proofs.row.split_page.Goals as goal

pub returns-clause-joined : goal.returns-clause-joined
returns-clause-joined g c =
    let page = get_or_read c.args.row.now.items c.args.at c.index_mut.result.now c.requires.within c.index_mut.ensures.value [] in
    page_split c.args.row.now.items c.insert.new.self.items c.args.at 32 c.split_off.new.self c.in_ok-back.back c.requires.within (c.in_ok-back.ensures.0 ∙ ap (take 32) page) (c.in_ok-back.ensures.1 ∙ ap (drop 32) page)
    c.in_ok-insert.ensures.items

pub returns-clause-sized : goal.returns-clause-sized
returns-clause-sized g c =
    split_is c.args.row.now.items c.insert.new.self.items c.args.at c.index_mut.result.now c.split_off.new.self c.in_ok-back.back c.requires.within c.requires.full
    (get_or_read c.args.row.now.items c.args.at c.index_mut.result.now c.requires.within c.index_mut.ensures.value []) c.in_ok-back.ensures.0 c.in_ok-back.ensures.1 c.in_ok-insert.ensures.items c.requires.sized

pub returns-clause-front : goal.returns-clause-front
returns-clause-front g c =
    ap (λ list. get_or list c.args.at []) c.in_ok-insert.ensures.items
    ∙ split_front c.args.row.now.items c.args.at c.split_off.new.self c.in_ok-back.back c.requires.within
    ∙ c.in_ok-back.ensures.0
    ∙ ap (take 32) (get_or_read c.args.row.now.items c.args.at c.index_mut.result.now c.requires.within c.index_mut.ensures.value [])

pub returns-clause-back : goal.returns-clause-back
returns-clause-back g c =
    ap (λ list. get_or list (c.args.at + 1) []) c.in_ok-insert.ensures.items
    ∙ split_back c.args.row.now.items c.args.at c.split_off.new.self c.in_ok-back.back c.requires.within
    ∙ c.in_ok-back.ensures.1
    ∙ ap (drop 32) (get_or_read c.args.row.now.items c.args.at c.index_mut.result.now c.requires.within c.index_mut.ensures.value [])
