use Rattle.std.proofs.Common.{false, refl, ap, ◌∙◌}
use Rattle.wesl_text_tokens.specs.Pieces.{a_name, a_number, a_sign}
use Rattle.wesl_text_tokens.specs.Symbols.{symbol_text}
use Rattle.wesl_text_tokens.specs.Tokens.{behind, join, name, number, open_list, close_list}
use Rattle.wesl_text_tokens.specs.Joining.{bit_at, held_at}
use Rattle.wesl_text_tokens.specs.Views.{all_placed_of, pieces_of, what_of}
use Rattle.wesl_text_tokens.proofs.Signs.{closes_list, joins_by, no_list, opens_list, what_here}
use Rattle.wesl_text_tokens.proofs.joining.join.Goals as goal

pub returns-in-Name-clause-joins : goal.returns-in-Name-clause-joins
returns-in-Name-clause-joins c =
    let held = held_at c.args.index c.args.held in
    joins_by c.single.result (pieces_of c.args.pieces.now) c.args.index (all_placed_of c.args.tokens.now.items) (all_placed_of c.single.new.tokens.items) c.args.held c.args.opens c.args.closes (a_name c.in-Name.name.now) (behind held (name c.in-Name.name.now))
    (what_here c.args.pieces.now c.args.index _ c.requires.within ∙ ap what_of c.in-Name.is) refl c.single.ensures.joins

pub returns-in-Number-clause-joins : goal.returns-in-Number-clause-joins
returns-in-Number-clause-joins c =
    let held = held_at c.args.index c.args.held in
    joins_by c.single-in-Number.result (pieces_of c.args.pieces.now) c.args.index (all_placed_of c.args.tokens.now.items) (all_placed_of c.single-in-Number.new.tokens.items) c.args.held c.args.opens c.args.closes (a_number c.in-Number.number.now) (behind held (number c.in-Number.number.now))
    (what_here c.args.pieces.now c.args.index _ c.requires.within ∙ ap what_of c.in-Number.is) refl c.single-in-Number.ensures.joins

pub returns-then-opens-clause-joins : goal.returns-then-opens-clause-joins
returns-then-opens-clause-joins c =
    let held = held_at c.args.index c.args.held in
    let glued = (bit_at (pieces_of c.args.pieces.now) c.args.index).is_glued in
    joins_by c.single-then-opens.result (pieces_of c.args.pieces.now) c.args.index (all_placed_of c.args.tokens.now.items) (all_placed_of c.single-then-opens.new.tokens.items) c.args.held c.args.opens c.args.closes (a_sign (symbol_text c.in-Sign.symbol)) (behind held open_list)
    (what_here c.args.pieces.now c.args.index _ c.requires.within ∙ ap what_of c.in-Sign.is) (opens_list c.args.opens c.args.closes glued held (symbol_text c.in-Sign.symbol) c.if-opens.true) c.single-then-opens.ensures.joins

pub returns-then-closes-clause-joins : goal.returns-then-closes-clause-joins
returns-then-closes-clause-joins c =
    let held = held_at c.args.index c.args.held in
    let glued = (bit_at (pieces_of c.args.pieces.now) c.args.index).is_glued in
    joins_by c.single-then-closes.result (pieces_of c.args.pieces.now) c.args.index (all_placed_of c.args.tokens.now.items) (all_placed_of c.single-then-closes.new.tokens.items) c.args.held c.args.opens c.args.closes (a_sign (symbol_text c.in-Sign.symbol)) (behind held close_list)
    (what_here c.args.pieces.now c.args.index _ c.requires.within ∙ ap what_of c.in-Sign.is) (closes_list c.args.opens c.args.closes glued held (symbol_text c.in-Sign.symbol) c.if-opens.false c.if-closes.true) c.single-then-closes.ensures.joins

pub returns-else-closes-clause-joins : goal.returns-else-closes-clause-joins
returns-else-closes-clause-joins c =
    let held = held_at c.args.index c.args.held in
    let glued = (bit_at (pieces_of c.args.pieces.now) c.args.index).is_glued in
    joins_by c.join_sign.result (pieces_of c.args.pieces.now) c.args.index (all_placed_of c.args.tokens.now.items) (all_placed_of c.join_sign.new.tokens.items) c.args.held c.args.opens c.args.closes (a_sign (symbol_text c.in-Sign.symbol)) (join false false held glued (a_sign (symbol_text c.in-Sign.symbol)))
    (what_here c.args.pieces.now c.args.index _ c.requires.within ∙ ap what_of c.in-Sign.is) (no_list c.args.opens c.args.closes glued held (symbol_text c.in-Sign.symbol) c.if-opens.false c.if-closes.false) c.join_sign.ensures.joins
