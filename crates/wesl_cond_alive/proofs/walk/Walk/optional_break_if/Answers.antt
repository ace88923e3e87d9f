use Rattle.std.proofs.Common.{ℕ, ap, ◌∙◌, sym, drop, map}
use Rattle.wesl_tree_syntax.specs.Tree.{before, end}
use Rattle.wesl_tree_syntax.specs.View.{break_if_view, optional}
use Rattle.wesl_cond_alive.specs.Noted.{below}
use Rattle.wesl_cond_alive.specs.Views.{here_view, spot_view, state_of}
use Rattle.wesl_cond_alive.specs.Walk.{last, listed, standing, walk}
use Rattle.wesl_cond_alive.proofs.Nodes.{some_last}
use Rattle.wesl_cond_alive.proofs.walk.Walk.optional_break_if.Goals as goal

pub returns-in-Some : goal.returns-in-Some
returns-in-Some c =
    let v = c.in-Some in
    let n = c.args.statements in
    let hs = map here_view c.args.places.now in
    let s = state_of c.args.self.now in
    record {
      noted = c.break_if.ensures.noted;
      found = λ k. c.break_if.ensures.found k
          ∙ (some_last break_if_view (spot_view c.args.here.now) (here_view c.place.result) s n hs v.break_if (c.place.ensures ∙ ap (λ h. standing {I = ℕ} h (listed (drop n hs)) end) c.whole.ensures)
          ∙ ap (λ o. walk (below c.args.here.now (last (drop n hs))) s (before (optional break_if_view o) end)) (sym v.is));
    }
