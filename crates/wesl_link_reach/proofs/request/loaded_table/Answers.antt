use Rattle.std.proofs.Common.{◌≡◌, length, ◌<◌, refl, true, sym, ◌∙◌, true≢false, rules}
use Rattle.std.proofs.lemmas.Option.{slice_get_within}
use Rattle.wesl_link_symbols.proofs.Lists.{read_at}
use Rattle.wesl_link_reach.proofs.Placing.{placed_at, unplaced}
use Rattle.wesl_link_reach.proofs.request.loaded_table.Goals as goal

pub index-requires : goal.index-requires
index-requires c =
    let (t, at, e) = c.requires.found c.args.path c.in-Some.place c.in-Some.ensures.found in
    let b : c.in-Some.place < length c.args.loaded.now.others.items = slice_get_within c.args.loaded.now.others.items c.in-Some.place t at in
    search rules

pub returns-in-Some-clause-found : goal.returns-in-Some-clause-found
returns-in-Some-clause-found c =
    let (t, at, e) = c.requires.found c.args.path c.in-Some.place c.in-Some.ensures.found in
    let b : c.in-Some.place < length c.args.loaded.now.others.items = slice_get_within c.args.loaded.now.others.items c.in-Some.place t at in
    placed_at c.args.request.now.root c.args.loaded.now.others.items c.args.loaded.now.places.entries c.args.path c.in-Some.place c.index.result.now c.requires c.in-Some.ensures.found
    (read_at c.args.loaded.now.others.items c.args.loaded.now.others.items c.in-Some.place c.index.result.now refl b c.index.ensures)

pub returns-in-None-clause-none : goal.returns-in-None-clause-none
returns-in-None-clause-none c =
    unplaced c.args.request.now.root c.args.loaded.now.others.items c.args.loaded.now.places.entries c.args.path c.requires
    (λ e. (let f : c.path.result ≡ c.args.path = c.path.ensures ∙ e in let h : c.eq.result ≡ true = search rules in true≢false (sym h ∙ c.if-eq.false)))
    c.in-None.ensures.none
