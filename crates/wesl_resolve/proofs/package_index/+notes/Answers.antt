use Rattle.std.proofs.Common.{refl, ap, ◌+◌, ◌∙◌, ◌∷◌, [], ◌++◌}
use Rattle.wesl_tree_names.specs.Path.{path_view, push}
use Rattle.wesl_resolve.proofs.Placing.{noted-next, noted-same, stands-there, seen-next, first-seen, none-seen}
use Rattle.wesl_resolve.proofs.package_index.+notes.Goals as goal

pub note-returns-in_err-note_below : goal.note-returns-in_err-note_below
note-returns-in_err-note_below t c = λ ks stands noted. c.note_below.ensures ks c.args.«module».now stands refl noted

pub note-returns-in_err-insert : goal.note-returns-in_err-insert
note-returns-in_err-insert t c = λ ks stands noted.
    noted-same ks c.note_below.new.places c.insert.new.self c.in_err-insert.ensures.err (c.note_below.ensures ks c.args.«module».now stands refl noted)

pub note-returns : goal.note-returns
note-returns t c = λ ks stands noted.
    noted-next ks c.note_below.new.places c.insert.new.self c.args.path c.args.place c.args.«module».now c.in_ok-insert.ensures.updates.0 stands (c.note_below.ensures ks c.args.«module».now stands refl noted)

pub note_first-returns : goal.note_first-returns
note_first-returns t c = λ ks m stands first noted.
    let there = c.in_ok-push.ensures.pushed ∙ ap (λ p. push p c.as_str.result.now) c.in_ok-path_there.ensures.equal ∙ ap (push (path_view c.args.path.now)) c.as_str.ensures.value in
    let at = c.in_ok-push-2.ensures.items ∙ ap (λ xs. xs ++ c.args.number ∷ []) (c.in_ok-place_there.ensures.items ∙ c.deref.ensures.value) in
    c.note.ensures ks (stands-there ks (path_view c.args.path.now) (path_view c.push.new.self) c.args.place.now.items c.push-2.new.self.items m c.args.«module».now c.args.number there at stands first) noted

pub note_below-loop-submodule-init : goal.note_below-loop-submodule-init
note_below-loop-submodule-init t c = record { counted = refl; seen = none-seen c.new-seen.result c.new-seen.ensures.empty; noted = λ ks m stands same noted. noted }

pub note_below-loop-submodule-preserved : goal.note_below-loop-submodule-preserved
note_below-loop-submodule-preserved t c =
    let ys = c.deref-submodule-items.result.now in
    let ms = c.args.modules.now.items in
    let ym = c.deref-submodule-items.ensures.value in
    let i = c.loop-submodule.submodule-index in
    let x = c.submodule-item.result in
    let text = c.as_str.result.now in
    let old = c.loop-submodule.invariant in
    record {
      counted = ap (λ n. n + 1) old.counted;
      seen = λ n. seen-next ys ms ym i x text n.now _ _ c.loop-submodule-test.true c.submodule-item.is c.as_str.ensures.value (old.seen n) (c.in_ok-is_first.ensures.updates.0 n);
      noted = λ ks m stands same noted.
          c.note_if.ensures ks m stands (λ first. first-seen m ys ms ym i c.loop-submodule.number x text _ c.in_ok-is_first.is_first same old.counted c.loop-submodule-test.true c.submodule-item.is c.as_str.ensures.value (old.seen c.as_str.result) c.in_ok-is_first.ensures.added first)
          (old.noted ks m stands same noted);
    }

pub note_below-returns : goal.note_below-returns
note_below-returns t c = c.loop-submodule.invariant.noted

pub note_below-returns-in_err-note_if : goal.note_below-returns-in_err-note_if
note_below-returns-in_err-note_if t c =
    let old = c.loop-submodule.invariant in
    λ ks m stands same noted.
    c.note_if.ensures ks m stands
    (λ first. first-seen m c.deref-submodule-items.result.now c.args.modules.now.items c.deref-submodule-items.ensures.value c.loop-submodule.submodule-index c.loop-submodule.number c.submodule-item.result c.as_str.result.now _ c.in_ok-is_first.is_first same old.counted c.loop-submodule-test.true c.submodule-item.is c.as_str.ensures.value (old.seen c.as_str.result) c.in_ok-is_first.ensures.added first)
    (old.noted ks m stands same noted)

pub note_if-returns : goal.note_if-returns
note_if-returns t c = λ ks m stands first noted. c.note_first.ensures ks m stands (first c.if-not-is_first.false) noted
