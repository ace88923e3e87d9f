-- A number of texts, gone over one after the other: what is left gives the same number.
use Rattle.std.proofs.Common.{◌≡◌, ◌<◌, ◌≤◌, ℕ, ◌+◌, ◌*◌, List, map, length, drop, get_or, String, string_bytes, sym, ap, ◌∙◌}
use Rattle.std.specs.declared.alloc.Global.{Global}
use Rattle.std.proofs.lemmas.List.{at_drop_more, at_drop_all}
use Rattle.wesl_tree.specs.Path.{Text}
use Rattle.wesl_example_traits.specs.Hash.{wrapped, hash_text, hash_texts}

-- one byte on
pub hash_text_next : (bytes : Text) (place whole number next byte : ℕ) → hash_text number (drop place bytes) ≡ whole → place < length bytes → byte ≡ get_or bytes place byte
    → next ≡ wrapped (wrapped (number * 31) + byte) → hash_text next (drop (place + 1) bytes) ≡ whole
hash_text_next bytes place whole number next byte is less at follows =
    let rest = drop (place + 1) bytes in
    let step : hash_text number (drop place bytes) ≡ hash_text (wrapped (wrapped (number * 31) + get_or bytes place byte)) rest = at_drop_more (hash_text number) bytes place byte less in
    ap (λ n. hash_text n rest) (follows ∙ ap (λ b. wrapped (wrapped (number * 31) + b)) at) ∙ sym step ∙ is

-- no byte is left
pub hash_text_all : (bytes : Text) (place whole number : ℕ) → hash_text number (drop place bytes) ≡ whole → length bytes ≤ place → number ≡ whole
hash_text_all bytes place whole number is all = sym (at_drop_all (hash_text number) bytes place all) ∙ is

-- one text on
pub hash_texts_next : (names : List (String Global)) (place whole number next : ℕ) (name : String Global) (text : Text) → hash_texts number (map string_bytes (drop place names)) ≡ whole
    → place < length names → name ≡ get_or names place name → text ≡ string_bytes name → next ≡ hash_text number text → hash_texts next (map string_bytes (drop (place + 1) names)) ≡ whole
hash_texts_next names place whole number next name text is less at spells follows =
    let rest = map string_bytes (drop (place + 1) names) in
    let step : hash_texts number (map string_bytes (drop place names)) ≡ hash_texts (hash_text number (string_bytes (get_or names place name))) rest = at_drop_more (λ left. hash_texts number (map string_bytes left)) names place name less in
    ap (λ n. hash_texts n rest) (follows ∙ ap (hash_text number) (spells ∙ ap string_bytes at)) ∙ sym step ∙ is

-- no text is left
pub hash_texts_all : (names : List (String Global)) (place whole number : ℕ) → hash_texts number (map string_bytes (drop place names)) ≡ whole → length names ≤ place → number ≡ whole
hash_texts_all names place whole number is all = sym (at_drop_all (λ left. hash_texts number (map string_bytes left)) names place all) ∙ is
