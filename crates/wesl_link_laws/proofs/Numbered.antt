-- The numbers of a linked unit follow meanings.
use Rattle.std.proofs.Common.{◌≡◌, ◌≢◌, ℕ, List, [], ◌++◌, map, Contains, arith, refl, sym, ap, ◌∙◌, subst}
use Rattle.std.specs.List.{All}
use Rattle.wesl_tree_names.specs.Path.{Text, Path}
use Rattle.wesl_tree_syntax.specs.Tree.{forest_of, identifiers}
use Rattle.wesl_tree_syntax.specs.Unit.{UnitView, trees_of, name_in, numbers}
use Rattle.wesl_tree_syntax.specs.Numbers.{AreNumbers}
use Rattle.wesl_link_symbols.specs.declared.symbols.Symbol.{Symbol}
use Rattle.wesl_link_reach.specs.World.{Task, Entered, Reached}
use Rattle.wesl_link_reach.specs.Faults.{AreDistinct}
use Rattle.wesl_link_reach.proofs.Lists.{contains_map, map_contains}
use Rattle.wesl_scope_occurrences.specs.Occurrences.{Occurrence, occurrences}
use Rattle.wesl_scope_occurrences.specs.Laws.{WaysLeadOutwards, OccurrencesAreIdentifiers}
use Rattle.wesl_scope_numbers.specs.Faithful.{name_of, IsFaithful}
use Rattle.wesl_scope_numbers.specs.Retargeted.{RunByFirst, IsNumberedByMeaning}
use Rattle.wesl_link_assembly.specs.Denotations.{free_name, printed_as}
use Rattle.wesl_link_assembly.specs.Pathless.{without_paths}
use Rattle.wesl_link_laws.proofs.Meaning.{first_meaning, denoted}
use Rattle.wesl_link_laws.proofs.ReadAs as reading
use Rattle.wesl_link_laws.proofs.Whole.{names_printed, same_each}
use Rattle.wesl_link_engine.specs.Worlds.{Module, tables}
use Rattle.wesl_link_engine.specs.Linked.{Denotation, Placed, AreMeanings, Joins, IsAssembled}
use Rattle.wesl_link_laws.proofs.Wordy.{Directives}
use Rattle.wesl_link_laws.proofs.Modules.{globals_node, globals_outside, directives_part, globals_part, globals_place, globals_number}
use Rattle.wesl_link_laws.proofs.Respelled.{IsGrammatical}
use Rattle.wesl_link_laws.proofs.Sources.{placed_of, AreSources, sources_held}
use Rattle.wesl_link_laws.proofs.Laid.{declarations_of, laid}
use Rattle.wesl_link_laws.proofs.Blocks.{ways_of, block_known}
use Rattle.wesl_link_laws.proofs.Directed.{directives_of_world}
use Rattle.wesl_link_laws.proofs.Unit.{IsAssembledOf, assembled_of, two_parts, words_alone, means_cut}
use Rattle.wesl_link_laws.specs.Apart.{OfLocalsAndFree, NamesAreApart}
use Rattle.wesl_link_laws.proofs.Symbols.{IsHeldSymbol, of_global}
use Rattle.wesl_link_laws.proofs.Distinct.{names_apart}
use Rattle.wesl_link_laws.proofs.Spelled.{reads_right}
use Rattle.wesl_link_laws.proofs.Follow.{StandSo, follow}
use Rattle.wesl_link_laws.proofs.Meant.{IsLaidOut, InUnit, stand_so}
use Rattle.wesl_scope_numbers.proofs.Canonical.{mapped_twice}
use Rattle.wesl_link_assembly.proofs.Renumbered.{shape_of}

module _ (lead : WaysLeadOutwards) (identified : OccurrencesAreIdentifiers) (w : List Module) (task : Task Path Text) (names : Path → Text → Text) (u : UnitView) (a : IsAssembled w task names u)
    (gs : (m : Module) → Contains w m → IsGrammatical m.unit) (distinct : AreDistinct (map (λ (m : Module). m.path) w)) (entered : (m : Module) → Contains w m → Entered (tables w) task m.path) where
  abbrev pub all_in : List (Occurrence ℕ)
  all_in = occurrences (trees_of u)

  abbrev pub denotations : List Denotation
  denotations = map free_name (identifiers (forest_of a.directives)) ++ a.meanings

  -- what the identifiers of a number stand for
  abbrev pub means : ℕ → Denotation
  means = first_meaning (free_name []) (numbers u) denotations

  abbrev Means : Occurrence ℕ → Denotation
  Means o = means o.name

  numbers_are : map (λ (o : Occurrence ℕ). o.name) all_in ≡ numbers u
  numbers_are = identified (trees_of u)

  all_meant : denotations ≡ map Means all_in
  all_meant = sym (denoted (free_name []) denotations (numbers u) a.linked.numbered) ∙ (ap (map means) (sym numbers_are) ∙ mapped_twice (λ (o : Occurrence ℕ). o.name) means all_in)

  abbrev pub srcs : AreSources (tables w) task w a.held
  srcs = sources_held (tables w) task w a.held gs distinct a.holds

  assembled : IsAssembledOf (forest_of a.directives) (forest_of (map (λ (d : Placed). d.declaration) a.held)) (trees_of u)
  assembled = assembled_of (printed_as names) a.directives a.held denotations u a.linked

  directed : Directives (forest_of a.directives)
  directed = directives_of_world w a.directives gs a.thinned

  cut_so : (map free_name (identifiers (forest_of a.directives)) ≡ map Means (directives_part (trees_of u))) × (a.meanings ≡ map Means (globals_part (trees_of u)))
  cut_so = means_cut (forest_of a.directives) (forest_of (map (λ (d : Placed). d.declaration) a.held)) (trees_of u) assembled directed means a.meanings all_meant

  free_word : (o : Occurrence ℕ) → Contains (directives_part (trees_of u)) o → (n : Text) × (means o.name ≡ free_name n)
  free_word o c =
      let (n, inside, e) = contains_map free_name (identifiers (forest_of a.directives)) (means o.name) (subst (λ ds. Contains ds (means o.name)) (sym cut_so.0) (map_contains Means (directives_part (trees_of u)) o c)) in
      (n, sym e)

  shaped : shape_of u.declarations.children ≡ shape_of (without_paths (declarations_of srcs.sources))
  shaped =
      assembled.declarations_shape
      ∙ ap (λ ts. shape_of (without_paths (forest_of ts))) (ap (map (λ (d : Placed). d.declaration)) srcs.same ∙ mapped_twice placed_of (λ (d : Placed). d.declaration) srcs.sources)

  pub lay : IsLaidOut (tables w) srcs.sources means (ways_of (trees_of u)) all_in
  lay = record {
    words = directives_part (trees_of u);
    globals = globals_part (trees_of u);
    parts = two_parts (forest_of a.directives) (forest_of (map (λ (d : Placed). d.declaration) a.held)) (trees_of u) assembled;
    free_words = λ o c. (words_alone (forest_of a.directives) (forest_of (map (λ (d : Placed). d.declaration) a.held)) (trees_of u) assembled directed o c, free_word o c);
    place = globals_place (trees_of u);
    number = globals_number (trees_of u);
    inner = omega arith;
    laid = laid (tables w) means srcs.sources u.declarations.children a.meanings globals_node (globals_place (trees_of u)) (globals_number (trees_of u)) globals_outside
        (λ s c. let h = (srcs.each s c).1 in record { node = h.node; plain = h.plain; typed = h.typed })
        shaped (subst (λ ds. Joins (AreMeanings (tables w)) ds a.meanings) srcs.same a.means) cut_so.1;
    known = block_known lead (trees_of u);
  }

  numbered_so : AreNumbers denotations (map (λ (o : Occurrence ℕ). o.name) all_in)
  numbered_so = subst (AreNumbers denotations) (sym numbers_are) a.linked.numbered

  pub one_number : All (λ x. All (λ y. means x.name ≡ means y.name → x.name ≡ y.name) all_in) all_in
  one_number i d hi j e hj same = reading.apart u.names all_in means denotations numbered_so (ap (map means) numbers_are ∙ denoted (free_name []) denotations (numbers u) a.linked.numbered) i j d e hi hj same

  pub printed_so : All (λ o. name_of u.names all_in o ≡ printed_as names (means o.name)) all_in
  printed_so =
      same_each (λ (o : Occurrence ℕ). name_in u.names o.name) (λ (o : Occurrence ℕ). printed_as names (means o.name)) all_in
      (sym (mapped_twice (λ (o : Occurrence ℕ). o.name) (name_in u.names) all_in)
      ∙ (ap (map (name_in u.names)) numbers_are
      ∙ (names_printed (printed_as names) _ denotations u a.linked
      ∙ (ap (map (printed_as names)) all_meant ∙ mapped_twice Means (printed_as names) all_in))))

  pub stand : StandSo u.names all_in means (printed_as names) (InUnit w task a.held srcs gs entered means (ways_of (trees_of u)) all_in lay)
  stand = stand_so w task a.held srcs gs entered means (ways_of (trees_of u)) all_in lay u.names (printed_as names) (λ p k n. refl) (λ n. refl) one_number printed_so

  by_first : RunByFirst (numbers u)
  by_first i m h k = let l = a.linked.numbered.one_each in a.linked.numbered.by_first i m (omega (arith, h, l)) k

  pub numbered_by_meaning : IsNumberedByMeaning u
  numbered_by_meaning = (follow u.names all_in means (printed_as names) (InUnit w task a.held srcs gs entered means (ways_of (trees_of u)) all_in lay) stand, by_first)

  pub faithful_where_apart : NamesAreApart u → IsFaithful u
  faithful_where_apart apart =
      reads_right w task a.held srcs gs entered means (ways_of (trees_of u)) all_in lay u.names (printed_as names) (λ p k n. refl) (λ n. refl) printed_so one_number apart

  pub faithful_where_distinct : ((d e : Denotation) → IsHeldSymbol w task d → IsHeldSymbol w task e → printed_as names d ≡ printed_as names e → d ≡ e)
      → OfLocalsAndFree u.names all_in (λ o. (s : Symbol Path Text) → Reached (tables w) task s → name_of u.names all_in o ≢ names s.path s.name) → IsFaithful u
  faithful_where_distinct differ others =
      faithful_where_apart
      (names_apart w task means all_in (of_global w task a.held srcs gs entered means (ways_of (trees_of u)) all_in lay) u.names (printed_as names) printed_so one_number differ others)
