use Rattle.std.proofs.Common.{◌≡◌, ◌∙◌, ◌∷◌, ◌++◌, ◌+◌, ◌<◌, [], ap, ap₂, sym, arith, refl, false, not, append_assoc, append-nil, drop, length, ℕ, Bool, List, Some}
use Rattle.std.specs.Prelude.{if◌then◌else◌, slice_get}
use Rattle.std.proofs.lemmas.Option.{slice_get_read}
use Rattle.wesl_cond_choices.specs.declared.place.Place.{Place}
use Rattle.wesl_cond_covers.specs.Sight.{changes_from}
use Rattle.wesl_cond_covers.proofs.Changing.{dropped_all, stays, stepped}
use Rattle.wesl_cond_covers.proofs.sights.Sights.add_changes.Goals as goal

pub places-init : goal.places-init
places-init c places h =
    let alive = c.args.alive.now in
    let i : ℕ = c.next_change-i.result in
    stays alive c.args.from false places 0 i 0 i (omega arith) (omega arith) (c.next_change-i.ensures.same places h)
    ∙ ap (λ (l : List ℕ). l ++ changes_from alive c.args.from false i (drop i places)) (sym c.requires.empty)

pub places-preserved : goal.places-preserved
places-preserved c places h =
    let alive = c.args.alive.now in
    let from = c.args.from in
    let held : List Place = c.args.self.now.places.items in
    let old : List ℕ = c.places.changes.items in
    let i : ℕ = c.places.i in
    let j : ℕ = c.next_change-i-in-places.result in
    let b : Bool = c.places.is_seeing in
    let t : Bool = c.changes_at-is_change.result in
    let b3 : Bool = c.turned-is_seeing.result in
    let b2 : Bool = if t then not b else b in
    let p : Place = c.index.result.now in
    let below : i < length held = omega (arith, c.args.self.now.places.ok.0) in
    let at : slice_get places i ≡ Some p = ap (λ (l : List Place). slice_get l i) (sym h.held) ∙ slice_get_read held (length held) i p refl below c.index.ensures in
    let more : List ℕ = if t then i ∷ [] else [] in
    c.places.invariant places h
    ∙ (ap (λ (l : List ℕ). old ++ l) (stepped alive from b places i p at t c.changes_at-is_change.ensures)
    ∙ (sym (append_assoc old more (changes_from alive from b2 (i + 1) (drop (i + 1) places)))
    ∙ ap₂ (λ (l : List ℕ) (m : List ℕ). l ++ m) (sym c.in_ok-add_if.ensures)
    (ap (λ (y : Bool). changes_from alive from y (i + 1) (drop (i + 1) places)) (sym c.turned-is_seeing.ensures)
    ∙ stays alive from b3 places (i + 1) j (i + 1) j (omega arith) c.next_change-i-in-places.ensures.ahead (c.next_change-i-in-places.ensures.same places h))))

pub returns : goal.returns
returns c places h =
    let held : List Place = c.args.self.now.places.items in
    let old : List ℕ = c.places.changes.items in
    let none : drop c.places.i places ≡ [] = dropped_all places c.places.i (omega (arith, ap length h.held, c.args.self.now.places.ok.0)) in
    sym (c.places.invariant places h
    ∙ (ap (λ (l : List Place). old ++ changes_from c.args.alive.now c.args.from c.places.is_seeing c.places.i l) none ∙ append-nil old))
