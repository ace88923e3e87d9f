-- Whether a span is told of the lists of a unit.
use Rattle.std.proofs.Common.{◌≡◌, ◌||◌, Bool, true, false, List, [], ◌∷◌, append-nil, refl, sym, ap, ap₂, ◌∙◌}
use Rattle.std.specs.Prelude.{Err, IfOk, Ok, OnOk, Result}
use Rattle.serde_json.specs.Data.{Data, null, boolean, number, string, array, object, Items, no_items, item, Members, no_members, member}
use Rattle.wesl_tree_names.specs.Path.{Text}
use Rattle.wesl_tree_syntax.specs.Tree.{Tree}
use Rattle.wesl_tree_syntax.specs.Shown.{placed}
use Rattle.wesl_tree_syntax.specs.Unit.{UnitView}
use Rattle.wesl_json_form.specs.Schema.{Name, a_declaration, a_directive, an_import}
use Rattle.wesl_json_form.specs.Writing.{put_list}
use Rattle.wesl_json_light.specs.Numbers.{has_number, items_have_number, members_have_number}
use Rattle.wesl_json_print_nodes.specs.Events.{Event, events, items_events, members_events}
use Rattle.wesl_json_print_nodes.specs.Printing.{inside}
use Rattle.wesl_json_print_nodes.specs.declared.printer.Printer.{Printer}
use Rattle.wesl_json_words.specs.Values.{items_in}
use Rattle.wesl_json.specs.Numbers.{NotesNumbers, is_number, or_none, tell_more, tell_number}
use Rattle.wesl_json.specs.UnitTexts.{shows_span}
use Rattle.wesl_json.specs.declared.places.NumberSink.{NumberSink}

-- ---- the numbers that are told of a value are its own

mutual
  told : (d : Data) → tell_number (events d) ≡ has_number d
  told null = refl
  told (boolean b) = refl
  told (number n) = refl
  told (string s) = refl
  told (array ds) = items_told ds
  told (object ms) = members_told ms

  items_told : (ds : Items) → tell_number (items_events ds) ≡ items_have_number ds
  items_told no_items = refl
  items_told (item d ds) = tell_more (events d) (items_events ds) ∙ ap₂ (λ a b. a || b) (told d) (items_told ds)

  members_told : (ms : Members) → tell_number (members_events ms) ≡ members_have_number ms
  members_told no_members = refl
  members_told (member k d ms) = tell_more (events d) (members_events ms) ∙ ap₂ (λ a b. a || b) (told d) (members_told ms)

list_told : (k : Text) (ds : Items) → tell_number (inside (put_list k (array ds) no_members)) ≡ items_have_number ds
list_told k no_items = refl
list_told k (item d ds) = ap tell_number (append-nil (events (array (item d ds)))) ∙ items_told (item d ds)

-- ---- the lists of a unit

lists-show : (u : UnitView) → shows_span (placed u) ≡ (items_have_number (items_in true u.names an_import u.imports.children) || items_have_number (items_in true u.names a_directive u.directives.children) || items_have_number (items_in true u.names a_declaration u.declarations.children))
unfolding items_in
lists-show u = refl

-- the same list, by the names and the tree of a unit
pub same-list : (m : Name) (names others : List Text) (t s : Tree) → others ≡ names → s ≡ t → items_in true names m t.children ≡ items_in true others m s.children
same-list m names others t s same one =
    ap (λ ns. items_in true ns m t.children) (sym same) ∙ ap (λ (r : Tree). items_in true others m r.children) (sym one)

-- a list of which a sink is told
one-list : {a b : NumberSink} (k : Text) (ds es : Items) (before : Bool) → ds ≡ es → a.has ≡ before → NotesNumbers (inside (put_list k (array ds) no_members)) a b → b.is_refused ≡ false → b.has ≡ (before || items_have_number es)
one-list {a} k ds es before same so_far h kept = h.has kept ∙ ap₂ (λ x y. x || y) so_far (list_told k ds ∙ ap items_have_number same)

pub spans-told : {a b c d : NumberSink} (j k l : Text) (u : UnitView) (is ds gs : Items)
    → is ≡ items_in true u.names an_import u.imports.children → ds ≡ items_in true u.names a_directive u.directives.children → gs ≡ items_in true u.names a_declaration u.declarations.children
    → a.has ≡ false → NotesNumbers (inside (put_list j (array is) no_members)) a b → NotesNumbers (inside (put_list k (array ds) no_members)) b c → NotesNumbers (inside (put_list l (array gs) no_members)) c d
    → d.is_refused ≡ false → d.has ≡ shows_span (placed u)
spans-told j k l u is ds gs first second third begun h i m kept =
    let imported = one-list j is _ false first begun h (i.noted (m.noted kept)) in
    let directed = one-list k ds _ _ second imported i (m.noted kept) in
    one-list l gs _ _ third directed m kept ∙ sym (lists-show u)

-- what the end of such a sink tells
pub shown : {E : Type 0} {new : Printer NumberSink} (u : UnitView) (r : Result Bool E) (s : NumberSink) → s ≡ new.sink → IfOk r (λ has. has ≡ s.has) → OnOk r (s.is_refused ≡ false) → (new.sink.is_refused ≡ false → new.sink.has ≡ shows_span (placed u)) → IfOk r (λ shows. shows ≡ shows_span (placed u))
shown u (Ok has) s same given noted told_of = given ∙ ap (λ t. t.has) same ∙ told_of (ap (λ t. t.is_refused) (sym same) ∙ noted)
shown u (Err e) s same given noted told_of = tt

-- ---- one event

pub no_number : {e : Event} {s : NumberSink} → is_number e ≡ false → NotesNumbers (e ∷ []) s s
no_number {e} {s} none = record { has = λ kept. or_none s.has ∙ ap (λ b. s.has || (b || false)) (sym none); noted = λ kept. kept }

or_true : (a : Bool) → true ≡ (a || true)
or_true true = refl
or_true false = refl

pub a_number : {e : Event} {old new : NumberSink} → is_number e ≡ true → new.has ≡ true → new.is_refused ≡ old.is_refused → NotesNumbers (e ∷ []) old new
a_number {e} {old} is has same = record { has = λ kept. has ∙ or_true old.has ∙ ap (λ b. old.has || (b || false)) (sym is); noted = λ kept. sym same ∙ kept }
