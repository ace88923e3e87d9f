-- The line of an answer, from its beginning, its map, its unit's text and its end.
use Rattle.std.proofs.Common.{◌≡◌, [], ◌∷◌, ◌++◌, Bool, true, false, codes, sym, ap, ◌∙◌, append_assoc}
use Rattle.serde_json.specs.Data.{Data}
use Rattle.serde_json.specs.Written.{compact_text}
use Rattle.serde_json.proofs.OnLiterals.{serde_json_on_literals}
use Rattle.wesl_tree_names.specs.Path.{Text}
use Rattle.wesl_program.specs.Line.{answer_beginning, answer_value, line_of}

abbrev between : Text
between = codes ",\"unit\":"

line-of : (clash : Bool) (map unit : Data) → answer_beginning clash ++ (compact_text map ++ (between ++ (compact_text unit ++ codes "}\n"))) ≡ line_of (answer_value clash map unit)
unfolding serde_json_on_literals
line-of true map unit = ap (λ r. answer_beginning true ++ r) (sym (append_assoc (compact_text map) (between ++ (compact_text unit ++ 125 ∷ [])) (10 ∷ []) ∙ ap (λ r. compact_text map ++ (between ++ r)) (append_assoc (compact_text unit) (125 ∷ []) (10 ∷ []))))
line-of false map unit = ap (λ r. answer_beginning false ++ r) (sym (append_assoc (compact_text map) (between ++ (compact_text unit ++ 125 ∷ [])) (10 ∷ []) ∙ ap (λ r. compact_text map ++ (between ++ r)) (append_assoc (compact_text unit) (125 ∷ []) (10 ∷ []))))

pub line-made : (clash : Bool) (map unit : Data) (opened mapped named printed closed : Text) → opened ≡ answer_beginning clash → mapped ≡ opened ++ compact_text map → named ≡ mapped ++ between → printed ≡ named ++ compact_text unit → closed ≡ printed ++ codes "}\n" → closed ≡ line_of (answer_value clash map unit)
line-made clash map unit opened mapped named printed closed first second third fourth fifth =
    let a = answer_beginning clash in
    let m = compact_text map in
    let u = compact_text unit in
    fifth ∙ ap (λ r. r ++ codes "}\n") (fourth ∙ ap (λ r. r ++ u) (third ∙ ap (λ r. r ++ between) (second ∙ ap (λ r. r ++ m) first)))
    ∙ append_assoc (((a ++ m) ++ between)) u (codes "}\n")
    ∙ append_assoc (a ++ m) between (u ++ codes "}\n")
    ∙ append_assoc a m (between ++ (u ++ codes "}\n"))
    ∙ line-of clash map unit
