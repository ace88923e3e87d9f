use Rattle.std.proofs.Common.{◌≡◌, ◌-◌, ◌+◌, ◌<◌, length, get_or, take, Some, bytes_eq, false, true≢false, sym, ap, ◌∙◌, subst, arith, rules}
use Rattle.std.proofs.lemmas.Slice.Eq.{bytes_eq-Decides}
use Rattle.serde_json.specs.Data.{put}
use Rattle.serde_json.specs.Find.{get_member}
use Rattle.serde_json.proofs.Views.{get_member-put, get_member-put_other}
use Rattle.wesl_json_form.specs.View.{borrowed_view, key_text, members_view}
use Rattle.wesl_json_form.proofs.Lists.{Entry, members_view-more}
use Rattle.wesl_json_form.proofs.members.last_at.Goals as goal

pub returns-then-eq : goal.returns-then-eq
returns-then-eq c =
    let xs = c.args.members.now in
    let left = c.loop-left.left - 1 in
    let m : Entry = c.index-members-left.result in
    let k = c.args.key.now in
    let inside : left < length xs = omega (arith, c.loop-left.invariant.0) in
    let here : m ≡ get_or xs left m = search rules in
    let up : left + 1 ≡ c.loop-left.left = omega arith in
    let same : key_text m.0 ≡ k = (bytes_eq-Decides (key_text m.0) k).0 (search rules) in
    sym (sym c.loop-left.invariant.1 ∙ ap (λ n. get_member k (members_view (take n xs))) (sym up) ∙ ap (get_member k) (members_view-more xs left m inside here)
    ∙ subst (λ q. get_member q (put (key_text m.0) (borrowed_view m.1) (members_view (take left xs))) ≡ Some (borrowed_view m.1)) same (get_member-put (key_text m.0) (borrowed_view m.1) (members_view (take left xs))))

pub loop-left-preserved : goal.loop-left-preserved
loop-left-preserved c =
    let xs = c.args.members.now in
    let left = c.loop-left.left - 1 in
    let m : Entry = c.index-members-left.result in
    let k = c.args.key.now in
    let inside : left < length xs = omega (arith, c.loop-left.invariant.0) in
    let here : m ≡ get_or xs left m = search rules in
    let up : left + 1 ≡ c.loop-left.left = omega arith in
    let not_it : bytes_eq (key_text m.0) k ≡ false = search rules in
    let other : k ≡ key_text m.0 → ⊥ = λ h. true≢false (sym ((bytes_eq-Decides (key_text m.0) k).1 (sym h)) ∙ not_it) in (
      omega (arith, c.loop-left.invariant.0),
      sym (get_member-put_other k (key_text m.0) (borrowed_view m.1) (members_view (take left xs)) other) ∙ sym (ap (get_member k) (members_view-more xs left m inside here))
          ∙ ap (λ n. get_member k (members_view (take n xs))) up ∙ c.loop-left.invariant.1,
    )
