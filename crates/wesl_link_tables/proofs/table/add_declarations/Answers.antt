use Rattle.std.proofs.Common.{◌≡◌, ◌<◌, ◌≤◌, ◌+◌, ◌∙◌, ap, sym, subst, arith, length, suc, get_or, take, None, []}
use Rattle.wesl_scope_occurrences.specs.Pieces.{declarations_in}
use Rattle.wesl_link_tables.specs.Marks.{AreMarked}
use Rattle.wesl_link_tables.specs.Numbering.{AreNumberedDeclarations}
use Rattle.wesl_link_tables.specs.NumbersView.{numbering}
use Rattle.wesl_link_tables.specs.Parts.{declared_as}
use Rattle.wesl_link_tables.specs.Reading.{unit_in, own_path}
use Rattle.wesl_link_tables.specs.Tables.{uses}
use Rattle.wesl_link_tables.proofs.Added.{numbered_later}
use Rattle.wesl_link_tables.proofs.Marking.{alike}
use Rattle.wesl_link_tables.proofs.Tabling.{places_length, pieces_length, made_in, made_length, names_length, piece_bounds, declared_next, marked_next, names_more}
use Rattle.wesl_link_tables.proofs.Related.{grows_itself, grows_trans}
use Rattle.wesl_link_tables.proofs.table.add_declarations.Goals as goal
use Rattle.wesl_link_split.proofs.Lists.{taken_all}
use Rattle.wesl_link_split.proofs.Orders.{itself}

pub loop-i-init : goal.loop-i-init
loop-i-init c =
    let n = numbering c.args.numbers.now in
    record {
      declared = subst (λ ds. AreNumberedDeclarations n ds []) (sym (c.reserve.ensures.declarations ∙ c.requires.empty.declarations)) tt;
      marked = subst (λ ms. AreMarked n ms []) (sym (c.reserve.ensures.marks ∙ c.requires.empty.marks)) tt;
      grows = grows_itself n;
    }

pub end_of-end-requires : goal.end_of-end-requires
end_of-end-requires c =
    let r = c.args.reading.now in
    let starts : length c.deref.result.now ≡ length r.senses.now.starts.items = ap length c.deref.ensures.value in
    omega (arith, c.loop-i-test.true, starts, places_length r c.requires.read, names_length r (numbering c.args.numbers.now) c.args.names.now c.requires.named)

pub index-requires : goal.index-requires
index-requires c =
    let r = c.args.reading.now in
    omega (arith, c.loop-i-test.true, r.senses.now.starts.ok.0, places_length r c.requires.read, names_length r (numbering c.args.numbers.now) c.args.names.now c.requires.named)

pub mark_piece-requires-clause-numbered : goal.mark_piece-requires-clause-numbered
mark_piece-requires-clause-numbered c = numbered_later (numbering c.args.numbers.now) (numbering c.loop-i.numbers) c.loop-i.invariant.grows c.args.reading.now c.requires.numbered

pub mark_piece-requires-clause-ordered : goal.mark_piece-requires-clause-ordered
mark_piece-requires-clause-ordered c =
    let r = c.args.reading.now in
    let bound : c.loop-i.i < length (declarations_in (unit_in r)) = omega (arith, c.loop-i-test.true, names_length r (numbering c.args.numbers.now) c.args.names.now c.requires.named) in
    let until : c.end_of-end.result ≡ get_or r.senses.now.starts.items (suc c.loop-i.i) (length r.senses.now.all.items) =
    c.end_of-end.ensures ∙ (ap (λ l. get_or l (suc c.loop-i.i) c.len.result) c.deref.ensures.value ∙ ap (get_or r.senses.now.starts.items (suc c.loop-i.i)) (c.len.ensures ∙ r.senses.now.all.ok.0)) in
    (piece_bounds r c.requires.read c.loop-i.i c.index.result.now c.end_of-end.result bound c.index.ensures until).0

pub mark_piece-requires-clause-inside : goal.mark_piece-requires-clause-inside
mark_piece-requires-clause-inside c =
    let r = c.args.reading.now in
    let bound : c.loop-i.i < length (declarations_in (unit_in r)) = omega (arith, c.loop-i-test.true, names_length r (numbering c.args.numbers.now) c.args.names.now c.requires.named) in
    let until : c.end_of-end.result ≡ get_or r.senses.now.starts.items (suc c.loop-i.i) (length r.senses.now.all.items) =
    c.end_of-end.ensures ∙ (ap (λ l. get_or l (suc c.loop-i.i) c.len.result) c.deref.ensures.value ∙ ap (get_or r.senses.now.starts.items (suc c.loop-i.i)) (c.len.ensures ∙ r.senses.now.all.ok.0)) in
    (piece_bounds r c.requires.read c.loop-i.i c.index.result.now c.end_of-end.result bound c.index.ensures until).1

pub loop-i-preserved : goal.loop-i-preserved
loop-i-preserved c =
    let r = c.args.reading.now in
    let k = c.loop-i.i in
    let a = numbering c.loop-i.numbers in
    let b = numbering c.mark_piece.new.numbers in
    let g = c.mark_piece.ensures.grows in
    let all = grows_trans (numbering c.args.numbers.now) a b c.loop-i.invariant.grows g in
    let bound : k < length (declarations_in (unit_in r)) = omega (arith, c.loop-i-test.true, names_length r (numbering c.args.numbers.now) c.args.names.now c.requires.named) in
    let until : c.end_of-end.result ≡ get_or r.senses.now.starts.items (suc k) (length r.senses.now.all.items) =
    c.end_of-end.ensures ∙ (ap (λ l. get_or l (suc k) c.len.result) c.deref.ensures.value ∙ ap (get_or r.senses.now.starts.items (suc k)) (c.len.ensures ∙ r.senses.now.all.ok.0)) in
    let one = c.in_ok-one.one in
    record {
      declared = subst (λ ds. AreNumberedDeclarations b ds (take (k + 1) (made_in r))) (sym c.in_ok-add.ensures.declarations)
          (declared_next r c.requires.read k c.index.result.now c.end_of-end.result bound c.index.ensures until a b g
          (alike r b c.mark_piece.new.numbers.names.different c.mark_piece.new.numbers.paths.different (numbered_later (numbering c.args.numbers.now) b all r c.requires.numbered)) c.args.names.now (get_or c.args.names.now k None)
          (names_more (numbering c.args.numbers.now) b all c.args.names.now _ c.requires.named) (itself c.args.names.now k None c.loop-i-test.true)
          one.asked c.in_ok-one.ensures.references c.in_ok-one.ensures.unclear _ (ap (λ p. declared_as (get_or c.args.names.now k None) p one) c.place_of-place.ensures) c.loop-i.declared.declarations.items c.loop-i.invariant.declared);
      marked = subst (λ ms. AreMarked b ms (take (k + 1) (uses (own_path r) (unit_in r)))) (sym c.in_ok-add.ensures.marks)
          (marked_next r c.requires.read k c.index.result.now c.end_of-end.result bound c.index.ensures until a b g one.marks c.in_ok-one.ensures.marks c.loop-i.declared.marks.items c.loop-i.invariant.marked);
      grows = all;
    }

pub returns-clause-declared : goal.returns-clause-declared
returns-clause-declared c =
    let r = c.args.reading.now in
    let b = numbering c.loop-i.numbers in
    let made = made_in r in
    let us = uses (own_path r) (unit_in r) in
    let long = names_length r (numbering c.args.numbers.now) c.args.names.now c.requires.named in
    let end : length made ≤ c.loop-i.i = omega (arith, c.loop-i-test.false, made_length r, long) in
    let last : length us ≤ c.loop-i.i = omega (arith, c.loop-i-test.false, pieces_length r, long) in
    record {
      declared = subst (λ es. AreNumberedDeclarations b c.loop-i.declared.declarations.items es) (taken_all made c.loop-i.i end) c.loop-i.invariant.declared;
      marked = subst (λ l. AreMarked b c.loop-i.declared.marks.items l) (taken_all us c.loop-i.i last) c.loop-i.invariant.marked;
    }

pub returns-in_err-reserve-clause-grows : goal.returns-in_err-reserve-clause-grows
returns-in_err-reserve-clause-grows c = grows_itself (numbering c.args.numbers.now)

pub returns-in_err-one-clause-grows : goal.returns-in_err-one-clause-grows
returns-in_err-one-clause-grows c = grows_trans (numbering c.args.numbers.now) (numbering c.loop-i.numbers) (numbering c.mark_piece.new.numbers) c.loop-i.invariant.grows c.mark_piece.ensures.grows

pub returns-in_err-add-clause-grows : goal.returns-in_err-add-clause-grows
returns-in_err-add-clause-grows c = grows_trans (numbering c.args.numbers.now) (numbering c.loop-i.numbers) (numbering c.mark_piece.new.numbers) c.loop-i.invariant.grows c.mark_piece.ensures.grows

pub returns-clause-grows : goal.returns-clause-grows
returns-clause-grows c = c.loop-i.invariant.grows
