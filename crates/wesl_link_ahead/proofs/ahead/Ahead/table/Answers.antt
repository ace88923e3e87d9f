use Rattle.std.proofs.Common.{◌<◌, length, rules}
use Rattle.std.proofs.lemmas.Option.{slice_get_within, slice_get-get_or}
use Rattle.wesl_link_ahead.proofs.Going.{placed_at}
use Rattle.wesl_link_ahead.proofs.ahead.Ahead.table.Goals as goal

pub offset_bounds-linking-place : goal.offset_bounds-linking-place
offset_bounds-linking-place c =
    let (t, at, e) = c.requires.ahead.placed c.args.path c.in-Some.place c.in-Some.ensures.found in
    let b : c.in-Some.place < length c.args.linking.now.tables.now = slice_get_within c.args.linking.now.tables.now c.in-Some.place t at in
    search rules

pub bounds-linking-place : goal.bounds-linking-place
bounds-linking-place c =
    let (t, at, e) = c.requires.ahead.placed c.args.path c.in-Some.place c.in-Some.ensures.found in slice_get_within c.args.linking.now.tables.now c.in-Some.place t at

pub returns-in-Some : goal.returns-in-Some
returns-in-Some c =
    let (t, at, e) = c.requires.ahead.placed c.args.path c.in-Some.place c.in-Some.ensures.found in
    let b : c.in-Some.place < length c.args.linking.now.tables.now = slice_get_within c.args.linking.now.tables.now c.in-Some.place t at in
    placed_at c.args.linking.now.tables.now c.args.path c.in-Some.place _ t at e (slice_get-get_or c.args.linking.now.tables.now c.in-Some.place c.index-linking-place.result b)
