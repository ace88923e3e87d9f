-- What the walk's values stand for.
use Rattle.std.specs.Prelude.{ℕ, false, map}
use Rattle.std.specs.Option.{option_map}
use Rattle.wesl_cond_chains.specs.Formulas.{form}
use Rattle.wesl_cond_chains.specs.Nodes.{condition_view}
use Rattle.wesl_tree_syntax.specs.View.{expression_view}
use Rattle.wesl_cond_alive.specs.Sound as sound
use Rattle.wesl_cond_alive.specs.Walk as spec
use Rattle.wesl_cond_alive.specs.declared.outline.Outline.{Outline}
use Rattle.wesl_cond_alive.specs.declared.walk.Here.{Here}
use Rattle.wesl_cond_alive.specs.declared.walk.Branch.{Branch}
use Rattle.wesl_cond_alive.specs.declared.walk.Mark.{Mark}
use Rattle.wesl_cond_alive.specs.declared.walk.Walk.{Walk}

-- what matters of a node
abbrev pub outline_view : Outline → sound.Outline ℕ
outline_view o = record { is_void = o.is_void; condition = condition_view o.condition; is_clean = o.is_clean }

-- where a node stands
abbrev pub here_view : Here → spec.Here
here_view h = record { set = h.set; is_bare = h.is_bare; is_formula = h.is_formula }

-- a branch of a chain, whose formula is what its expression reads as
abbrev pub branch_view : Branch → spec.Branch ℕ
branch_view b = record { holder = b.holder; begins = b.begins; formula = option_map (λ e. form (expression_view e.now)) b.formula }

-- an identifier by its number, and its set
abbrev pub mark_view : Mark → spec.Mark ℕ
mark_view m = record { name = m.ident.0; set = m.set }

-- what a walk has found, apart from whether memory was wanting
abbrev pub state_of : Walk → spec.State ℕ
state_of w = record { branches = map branch_view w.branches.items; marks = map mark_view w.marks.items; flags = map (λ i. i.0) w.flags.items }

-- where a node stands that has no attributes
abbrev pub spot_view : Here → spec.Here
spot_view h = record { set = h.set; is_bare = false; is_formula = h.is_formula }
