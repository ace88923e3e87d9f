use Rattle.std.proofs.Common.{◌<◌, length, rules}
use Rattle.std.proofs.lemmas.Option.{slice_get_within, slice_get-get_or}
use Rattle.wesl_link_flaws.proofs.Placing.{at_place, not_at}
use Rattle.wesl_link_flaws.proofs.given.Given.table.Goals as goal

pub offset_bounds-self-place : goal.offset_bounds-self-place
offset_bounds-self-place c =
    let (t, at, e) = c.requires.placed.found c.args.path c.in-Some.place c.in-Some.ensures.found in
    let b : c.in-Some.place < length c.args.self.now.tables.now = slice_get_within c.args.self.now.tables.now c.in-Some.place t at in
    search rules

pub bounds-self-place : goal.bounds-self-place
bounds-self-place c =
    let (t, at, e) = c.requires.placed.found c.args.path c.in-Some.place c.in-Some.ensures.found in slice_get_within c.args.self.now.tables.now c.in-Some.place t at

pub returns-in-Some-clause-found : goal.returns-in-Some-clause-found
returns-in-Some-clause-found c =
    let (t, at, e) = c.requires.placed.found c.args.path c.in-Some.place c.in-Some.ensures.found in
    let b : c.in-Some.place < length c.args.self.now.tables.now = slice_get_within c.args.self.now.tables.now c.in-Some.place t at in
    at_place c.args.self.now.tables.now c.args.self.now.places.entries c.args.path c.in-Some.place _ c.requires.placed c.in-Some.ensures.found
    (slice_get-get_or c.args.self.now.tables.now c.in-Some.place c.index-self-place.result b)

pub returns-in-None-clause-none : goal.returns-in-None-clause-none
returns-in-None-clause-none c = not_at c.args.self.now.tables.now c.args.self.now.places.entries c.args.path c.requires.placed c.in-None.ensures.none
