-- What a held declaration refers to is reached.
use Rattle.std.proofs.Common.{◌≡◌, ℕ, List, Option, Some, None, refl, Contains}
use Rattle.wesl_tree_names.specs.Path.{Text, Path}
use Rattle.wesl_tree_syntax.specs.Tree.{TreeOf}
use Rattle.wesl_link_symbols.specs.declared.symbols.Reference.{Reference}
use Rattle.wesl_link_symbols.specs.declared.symbols.Symbol.{Symbol}
use Rattle.wesl_link_symbols.specs.declared.symbols.LookUp.{LookUp}
use Rattle.wesl_link_symbols.specs.Tables.{Table}
use Rattle.wesl_link_symbols.specs.Names.{AsksFrom, asked_for}
use Rattle.wesl_link_reach.specs.World.{Task, Entered, Reached, Followed, led_to, by_assert, by_symbol}
use Rattle.wesl_link_tables.specs.Tables.{name_of, scope_of, declaration_of}
use Rattle.wesl_link_tables.specs.Uses.{Use, asked}
use Rattle.wesl_link_engine.specs.Worlds.{Module}
use Rattle.wesl_link_engine.specs.Linked.{AskedLeadsTo}
use Rattle.wesl_link_engine.proofs.Lists.{in_flat_map}

module _ (w : List (Table Path Text)) (task : Task Path Text) (t : Table Path Text) (here : Contains w t) (entered : Entered w task t.path) where
  followed : (name : Option Text) (l : LookUp Path Text) → ((n : Text) → name ≡ Some n → Reached w task (record { path = t.path; name = n })) → AsksFrom t name l → Followed w task l
  followed None l h asks = by_assert t.path t l entered (here, refl) asks
  followed (Some n) l h asks = by_symbol (record { path = t.path; name = n }) t l (h n refl) (here, refl) asks

  -- of a declaration that is held: its symbol is reached, or it has no name
  pub refers_to_reached : (m : Module) (k : ℕ) (d : TreeOf Text) (us : List (Use Path Text)) → Contains t.declarations (declaration_of (scope_of m.path m.unit) k d us) → ((n : Text) → name_of d ≡ Some n → Reached w task (record { path = t.path; name = n }))
      → (u : Use Path Text) → Contains us u → (a : Reference Path Text) → Contains (asked u) a → (s : Symbol Path Text) → AskedLeadsTo w t.path a s → Reached w task s
  refers_to_reached m k d us held reached u in_uses a in_asked s answers =
      let asks : AsksFrom t (name_of d) (asked_for t a) = (a, (declaration_of (scope_of m.path m.unit) k d us, held, refl, in_flat_map asked us u a in_uses in_asked), refl) in
      led_to (asked_for t a) s (followed (name_of d) (asked_for t a) reached asks) answers
