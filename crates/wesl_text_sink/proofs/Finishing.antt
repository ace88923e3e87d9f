-- What is marked in a text are the tokens that are laid out in it.
use Rattle.std.proofs.Common.{◌≡◌, ℕ, ◌+◌, ◌-◌, Bool, true, false, ◌&&◌, List, [], ◌∷◌, ◌++◌, length, take, drop, Option, Some, None, Result, Ok, Err, Vec, Global, refl, ap, sym, ◌∙◌, append_assoc, length-append, arith}
use Rattle.std.specs.Prelude.{OnOk, is_err, string_bytes}
use Rattle.std.proofs.lemmas.Bool.{and_parts}
use Rattle.std.proofs.lemmas.Slice.Eq.{bytes_eq-Decides}
use Rattle.std.proofs.Math.Seq.{drop-append_seam, take-append_seam}
use denote.Enum.Bare.{true_same}
use Rattle.wesl_tree_names.specs.Path.{Text}
use Rattle.wesl_text_tokens.specs.contracts.symbol.Symbol as symbols
use Rattle.wesl_text_tokens.specs.Tokens.{Token, name, number, symbol, open_list, close_list, tokens}
use Rattle.wesl_text_form.specs.Slots.{same_token}
use Rattle.wesl_text_form.specs.Says.{same_tokens}
use Rattle.wesl_text_sink.specs.declared.kind.Mark.{Mark}
use Rattle.wesl_text_sink.specs.Layout.{Laid, kind_of, laid_tokens, layout, marks_from, token_by, token_text}
use Rattle.wesl_text_sink.specs.Filling.{Blanked, Shows}
use Rattle.wesl_text_sink.specs.declared.sink.TextSink.{TextSink}
use Rattle.wesl_text_sink.specs.Finished.{IsMisread, IsRead, are_read, is_read_as, tokens_at}
use Rattle.wesl_text_reading.proofs.Filled.{same_is}

kinds_back : (t : Token) → token_by (kind_of t) (token_text t) ≡ t
kinds_back (name t) = refl
kinds_back (number t) = refl
kinds_back (symbol s) = refl
kinds_back open_list = refl
kinds_back close_list = refl

-- the bytes between two places
part_of : (a b c : Text) (i j : ℕ) → i ≡ length a → j ≡ length a + length b → take (j - i) (drop i (a ++ (b ++ c))) ≡ b
part_of a b c i j e g =
    let few : j - i ≡ length b = omega arith in
    ap (λ n. take n (drop i (a ++ (b ++ c)))) few
    ∙ ap (λ n. take (length b) (drop n (a ++ (b ++ c)))) e
    ∙ ap (take (length b)) (drop-append_seam a (b ++ c))
    ∙ take-append_seam b c

-- what is marked in a text, behind what stands before it
marked : (ls : List Laid) (whole before behind : Text) (at : ℕ) → at ≡ length before → whole ≡ before ++ (layout ls ++ behind) → tokens_at whole (marks_from at ls) ≡ laid_tokens ls
marked [] whole before behind at e w = refl
marked (l ∷ ls) whole before behind at e w =
    let b : Text = l.blanks in
    let t : Text = token_text l.token in
    let rest : Text = layout ls ++ behind in
    let next : ℕ = at + length b + length t in
    let whole_is : whole ≡ (before ++ b) ++ (t ++ rest) =
    w ∙ ap (λ (z : Text). before ++ z) (append_assoc (b ++ t) (layout ls) behind ∙ append_assoc b t rest) ∙ sym (append_assoc before b (t ++ rest)) in
    let start_is : at + length b ≡ length (before ++ b) = omega (arith, length-append before b) in
    let next_is : next ≡ length (before ++ b) + length t = omega (arith, length-append before b) in
    let all_is : next ≡ length ((before ++ b) ++ t) = omega (arith, length-append before b, length-append (before ++ b) t) in
    let first : take (next - (at + length b)) (drop (at + length b) whole) ≡ t =
    ap (λ (z : Text). take (next - (at + length b)) (drop (at + length b) z)) whole_is ∙ part_of (before ++ b) t rest (at + length b) next start_is next_is in
    ap (λ (z : Text). token_by (kind_of l.token) z ∷ tokens_at whole (marks_from next ls)) first
    ∙ ap (λ (x : Token). x ∷ tokens_at whole (marks_from next ls)) (kinds_back l.token)
    ∙ ap (λ (xs : List Token). l.token ∷ xs) (marked ls whole ((before ++ b) ++ t) behind next all_is (whole_is ∙ sym (append_assoc (before ++ b) t rest)))

-- ---- comparing

pub all_same : (ts us : List Token) → same_tokens ts us ≡ true → ts ≡ us
all_same [] [] e = refl
all_same [] (u ∷ us) e = absurd (cc e)
all_same (t ∷ ts) [] e = absurd (cc e)
all_same (t ∷ ts) (u ∷ us) e =
    let x : (same_token t u ≡ true) × (same_tokens ts us ≡ true) = and_parts _ _ e in
    ap (λ (z : Token). z ∷ ts) (same_is t u x.0) ∙ ap (λ (zs : List Token). u ∷ zs) (all_same ts us x.1)

token_same : (t : Token) → same_token t t ≡ true
token_same (name a) = (bytes_eq-Decides a a).1 refl
token_same (number a) = (bytes_eq-Decides a a).1 refl
token_same (symbol a) = true_same symbols.the_type a a refl
token_same open_list = refl
token_same close_list = refl

pub tokens_same : (ts : List Token) → same_tokens ts ts ≡ true
tokens_same [] = refl
tokens_same (t ∷ ts) = ap (λ b. b && same_tokens ts ts) (token_same t) ∙ tokens_same ts

-- ---- what is handed out

tokens_here : (s new : TextSink) (ls : List Laid) → new.marks ≡ s.marks → Blanked (string_bytes s.text) (string_bytes new.text) → Shows s ls → tokens_at (string_bytes new.text) new.marks.items ≡ laid_tokens ls
tokens_here s new ls m b h =
    ap (λ (v : Vec Mark Global). tokens_at (string_bytes new.text) v.items) m
    ∙ ap (λ (ms : List Mark). tokens_at (string_bytes new.text) ms) h.marks
    ∙ marked ls (string_bytes new.text) [] b.blanks 0 refl (b.text ∙ ap (λ (t : Text). t ++ b.blanks) h.text)

read_as : (o : Option (List Token)) (ts : List Token) → are_read o ts ≡ true → o ≡ Some ts
read_as None ts e = absurd (cc e)
read_as (Some us) ts e = ap Some (all_same us ts e)

not_read_as : (o : Option (List Token)) (ts : List Token) → are_read o ts ≡ false → o ≡ Some ts → ⊥
not_read_as o ts e g = let z : ⊥ = cc (sym (tokens_same ts) ∙ (ap (λ (p : Option (List Token)). are_read p ts) (sym g) ∙ e)) in z

laid_whole : (s new : TextSink) (ls : List Laid) → Blanked (string_bytes s.text) (string_bytes new.text) → Shows s ls → Blanked (layout ls) (string_bytes new.text)
laid_whole s new ls b h = record { blanks = b.blanks; text = b.text ∙ ap (λ (t : Text). t ++ b.blanks) h.text; are_blanks = b.are_blanks }

-- the tokens of a text are those that were given
pub is_read : (s new : TextSink) (ls : List Laid) → new.marks ≡ s.marks → Blanked (string_bytes s.text) (string_bytes new.text) → is_read_as (string_bytes new.text) new.marks.items ≡ true → Shows s ls → IsRead ls (string_bytes new.text)
is_read s new ls m b e h = record {
  text = laid_whole s new ls b h;
  tokens = read_as (tokens (string_bytes new.text)) (tokens_at (string_bytes new.text) new.marks.items) e ∙ ap Some (tokens_here s new ls m b h);
}

pub is_misread : (s new : TextSink) (ls : List Laid) → new.marks ≡ s.marks → Blanked (string_bytes s.text) (string_bytes new.text) → is_read_as (string_bytes new.text) new.marks.items ≡ false → Shows s ls → IsMisread ls
is_misread s new ls m b e h = record {
  whole = string_bytes new.text;
  text = laid_whole s new ls b h;
  tokens = λ g. not_read_as (tokens (string_bytes new.text)) (tokens_at (string_bytes new.text) new.marks.items) e (g ∙ ap Some (sym (tokens_here s new ls m b h)));
}

pub blanked_so : {A E : Type 0} (r : Result A E) (P : Type 0) → is_err r ≡ false → OnOk r P → P
blanked_so (Ok x) P e h = h
blanked_so (Err f) P e h = absurd (cc e)

pub told_of : (t u : Text) (ms ns : List Mark) (b : Bool) → t ≡ u → ms ≡ ns → is_read_as t ms ≡ b → is_read_as u ns ≡ b
told_of t u ms ns b e g h = ap (λ (z : Text). is_read_as z ns) (sym e) ∙ (ap (λ (zs : List Mark). is_read_as t zs) (sym g) ∙ h)
