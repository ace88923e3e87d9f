-- What a finished sink tells of the unit that was printed into it.
use Rattle.std.proofs.Common.{◌≡◌, ◌⊎◌, Err, None, Ok, Option, Result, Some, [], false, inl, inr, refl, subst, sym as turned, true, true≢false, ◌∙◌}
use Rattle.std.specs.Global.{Global}
use Rattle.std.specs.Prelude.{IfErr, IfOk, String, string_bytes}
use Rattle.wesl_tree_names.specs.Path.{Text}
use Rattle.wesl_tree_syntax.specs.Unit.{UnitOf}
use Rattle.wesl_text_form.specs.Says.{IsWritable, Says, TextSays, spelling}
use Rattle.wesl_text_form.specs.Spelling.{slots}
use Rattle.wesl_text_tokens.specs.Tokens.{tokens}
use Rattle.wesl_text_sink.specs.Filling.{Filled, Fills, Shows}
use Rattle.wesl_text_sink.specs.Finished.{Finishes, IsRead}
use Rattle.wesl_text_sink.specs.Laws.{IsPrinted}
use Rattle.wesl_text_sink.specs.Layout.{laid_tokens}
use Rattle.wesl_text_sink.specs.Words.{is_limit}
use Rattle.wesl_text_sink.specs.declared.fault.PrintFault.{PrintFault}
use Rattle.wesl_text_sink.specs.declared.sink.TextSink.{TextSink}
use Rattle.wesl_text_writable.specs.Laws.{FewestSay}

-- a text that is handed out says the unit whose slots were given
pub printed : (u : UnitOf Text) (new end : TextSink) (r : Result (String Global) PrintFault) → Shows new [] → Fills (slots u) new end → Finishes end r → FewestSay → IfOk r (λ t. TextSays (string_bytes t) u)
printed u new end (Err e) shows fills finish law = tt
printed u new end (Ok t) shows fills finish law = by end.fault refl where
  by : (o : Option PrintFault) → end.fault ≡ o → TextSays (string_bytes t) u
  by (Some f) e = let z : ⊥ = Prim.cc (finish.faulty f e) in absurd z
  by None e =
      let p : Filled (slots u) [] end = fills.filled e [] shows in
      let q : IsRead p.laid (string_bytes t) = finish.result e p.laid p.shows in
      (laid_tokens p.laid, q.tokens, subst (λ ts. Says ts u) (turned p.tokens) (law u p.slots p.given))

pub spelled_so : (u : UnitOf Text) (r : Result (String Global) PrintFault) → IsPrinted u r → IfOk r (λ t. tokens (string_bytes t) ≡ spelling u)
spelled_so u (Ok t) h = h.1
spelled_so u (Err e) h = tt

pub unwritable : (u : UnitOf Text) (r : Result (String Global) PrintFault) → IsPrinted u r → IfErr r (λ e. is_limit e ≡ false → IsWritable u ≡ false)
unwritable u (Ok t) h = tt
unwritable u (Err e) h = by h where
  by : (is_limit e ≡ true) ⊎ (IsWritable u ≡ false) → is_limit e ≡ false → IsWritable u ≡ false
  by (inl limit) none = absurd (true≢false (turned limit ∙ none))
  by (inr not) none = not
