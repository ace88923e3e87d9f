-- An event that is written.
use Rattle.std.proofs.Common.{◌≡◌, [], ◌∷◌, ◌++◌, false, true≢false, refl, sym, ap, ◌∙◌}
use Rattle.std.specs.Prelude.{IsOk, Ok, Err, OnOk, Result}
use Rattle.json.specs.Token.{Token, begin_array, begin_object, key}
use Rattle.json.specs.Tree.{items_tokens, json_tokens, members_tokens}
use Rattle.json.specs.Written.{Writes, Written}
use Rattle.serde_json.specs.Data.{Data, null, boolean, number, string, array, object, Items, no_items, item, Members, no_members, member}
use Rattle.serde_json.specs.Written.{items_outline, members_outline, outline}
use Rattle.wesl_json_print_nodes.specs.Events.{Event, events, items_events, members_events}
use Rattle.wesl_json_print.specs.Texts.{WritesEvents, tokens_more, tokens_of}
use Rattle.wesl_json_print.specs.declared.text.TextSink.{TextSink}

ok_at : {E : Type 0} (r : Result (Unit {0}) E) (P : Type 0) → IsOk r → OnOk r P → P
ok_at (Ok x) P is h = h
ok_at (Err e) P is h = absurd (true≢false (sym is))

pub token : {E : Type 0} {old new : TextSink} {out : Written} {t : Token} (e : Event) (r : Result (Unit {0}) E) → tokens_of (e ∷ []) ≡ t ∷ [] → Writes r old.out out t → new.out ≡ out → (new.is_refused ≡ false → IsOk r) → (new.is_refused ≡ false → old.is_refused ≡ false) → WritesEvents (e ∷ []) old new
token {E} {old} {new} {out} {t} e r one w is done noted = record {
  tokens = λ kept. ap (λ x. x.tokens) is ∙ ok_at r _ (done kept) w.ok ∙ ap (λ ts. old.out.tokens ++ ts) (sym one);
  before = λ kept. ap (λ x. x.before) is ∙ w.room.0;
  noted = noted;
}

-- ---- the tokens of a value are those of its text

mutual
  pub told : (d : Data) → tokens_of (events d) ≡ json_tokens (outline d)
  told null = refl
  told (boolean b) = refl
  told (number n) = refl
  told (string s) = refl
  told (array ds) = ap (λ ts. begin_array ∷ ts) (items_told ds)
  told (object ms) = ap (λ ts. begin_object ∷ ts) (members_told ms)

  items_told : (ds : Items) → tokens_of (items_events ds) ≡ items_tokens (items_outline ds)
  items_told no_items = refl
  items_told (item d ds) = tokens_more (events d) (items_events ds) ∙ ap (λ ts. ts ++ tokens_of (items_events ds)) (told d) ∙ ap (λ ts. json_tokens (outline d) ++ ts) (items_told ds)

  members_told : (ms : Members) → tokens_of (members_events ms) ≡ members_tokens (members_outline ms)
  members_told no_members = refl
  members_told (member k d ms) = ap (λ ts. key k ∷ ts) (tokens_more (events d) (members_events ms) ∙ ap (λ ts. ts ++ tokens_of (members_events ms)) (told d) ∙ ap (λ ts. json_tokens (outline d) ++ ts) (members_told ms))

-- a value that is written
pub written : (d : Data) {a b : TextSink} → WritesEvents (events d) a b → b.is_refused ≡ false → b.out.tokens ≡ a.out.tokens ++ json_tokens (outline d)
written d {a} h kept = h.tokens kept ∙ ap (λ ts. a.out.tokens ++ ts) (told d)
