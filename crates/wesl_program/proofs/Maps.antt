-- The object of a map, as it is written.
use Rattle.std.proofs.Common.{◌≡◌, ℕ, ◌+◌, ◌<◌, ◌≤◌, List, [], ◌∷◌, ◌++◌, Bool, Bor, length, drop, get_or, map, ap, sym, ◌∙◌}
use Rattle.std.proofs.lemmas.List.{append_assoc, drop_all, drop_more}
use Rattle.json.specs.Token.{Token, end_object, key}
use Rattle.json.specs.Tree.{json_tokens, members_tokens}
use Rattle.serde_json.specs.Data.{Data}
use Rattle.serde_json.specs.Written.{members_outline, outline}
use Rattle.wesl_tree_names.specs.Path.{Text}
use Rattle.wesl_tree_names.specs.declared.path.ModulePath.{ModulePath}
use Rattle.wesl_source_map_entries.specs.Records.{Items, SameItems}
use Rattle.wesl_tree_syntax.specs.Unit.{UnitView}
use Rattle.wesl_json_form.specs.Units.{written_as}
use Rattle.wesl_program_bundle.specs.Bundle.{Bundle}
use Rattle.wesl_link_engine.specs.Worlds.{Module}
use Rattle.wesl_program.specs.Answers.{entry_view}
use Rattle.wesl_program.specs.Line.{IsAnswerOf, IsMapOf, SaysClash, item_value, map_members}
use Rattle.wesl_program.specs.Linking.{LinksTo, recorded_for}
use Rattle.wesl_program.specs.Validity.{IsValidUnder}

abbrev pub Entry : Type 0
Entry = Bor Text × Bor ModulePath × Bor Text

-- four tokens, one after the other
pub four-written : (t u v w : Token) (old first second third fourth : List Token) → first ≡ old ++ t ∷ [] → second ≡ first ++ u ∷ [] → third ≡ second ++ v ∷ []
    → fourth ≡ third ++ w ∷ [] → fourth ≡ old ++ t ∷ u ∷ v ∷ w ∷ []
four-written t u v w old first second third fourth one two three four =
    four ∙ ap (λ r. r ++ w ∷ []) (three ∙ ap (λ r. r ++ v ∷ []) (two ∙ ap (λ r. r ++ u ∷ []) one))
    ∙ append_assoc ((old ++ t ∷ []) ++ u ∷ []) (v ∷ []) (w ∷ [])
    ∙ append_assoc (old ++ t ∷ []) (u ∷ []) (v ∷ w ∷ [])
    ∙ append_assoc old (t ∷ []) (u ∷ v ∷ w ∷ [])

-- the members of the entries from the i-th on, with the end of the object
abbrev pub left : ℕ → List Entry → List Token
left i es = members_tokens (members_outline (map_members (map entry_view (drop i es))))

left-more : (es : List Entry) (i : ℕ) (e : Entry) → i < length es → e ≡ get_or es i e → left i es ≡ key e.0.now ∷ json_tokens (outline (item_value (entry_view e).1)) ++ left (i + 1) es
left-more es i e within here =
    ap (λ ds. members_tokens (members_outline (map_members (map entry_view ds)))) (drop_more es i e within ∙ ap (λ d. d ∷ drop (i + 1) es) (sym here))

-- a turn
pub turn-written : (es : List Entry) (i : ℕ) (e : Entry) (whole now named grown : List Token) → i < length es → e ≡ get_or es i e → now ++ left i es ≡ whole
    → named ≡ now ++ key e.0.now ∷ [] → grown ≡ named ++ json_tokens (outline (item_value (entry_view e).1)) → grown ++ left (i + 1) es ≡ whole
turn-written es i e whole now named grown within here so_far keyed h =
    let told = json_tokens (outline (item_value (entry_view e).1)) in
    ap (λ ts. ts ++ left (i + 1) es) (h ∙ ap (λ ts. ts ++ told) keyed)
    ∙ append_assoc (now ++ key e.0.now ∷ []) told (left (i + 1) es)
    ∙ append_assoc now (key e.0.now ∷ []) (told ++ left (i + 1) es)
    ∙ ap (λ ts. now ++ ts) (sym (left-more es i e within here)) ∙ so_far

-- after the last turn
pub all-written : (es : List Entry) (i : ℕ) (start now closed : List Token) → length es ≤ i → now ++ left i es ≡ start ++ left 0 es → closed ≡ now ++ end_object ∷ []
    → closed ≡ start ++ members_tokens (members_outline (map_members (map entry_view es)))
all-written es i start now closed all so_far h =
    h ∙ ap (λ ts. now ++ ts) (sym (ap (λ ds. members_tokens (members_outline (map_members (map entry_view ds)))) (drop_all i es all))) ∙ so_far

-- the same map, of a record that is the same
pub map_of_same : (old new : Items) (d : Data) → SameItems old new → IsMapOf new d → IsMapOf old d
map_of_same old new d same (listing, is, shown) = (listing, record { ascend = is.ascend; all = λ name. is.all name ∙ same name }, shown)

-- an answer of a link, of what a check and the writing of it say
pub answer-of : (b : Bundle) (u : UnitView) (after : Items) (clash : Bool) (map unit : Data) → (w : List Module) × LinksTo b w u × SameItems (recorded_for b w) after → IsValidUnder b.builtins u
    → SaysClash clash u → IsMapOf after map → unit ≡ written_as b.options.spans u → IsAnswerOf b clash map unit
answer-of b u after clash map unit (w, links, same) valid says mapped written = (w, u, links, valid, says, map_of_same (recorded_for b w) after map same mapped, written)
