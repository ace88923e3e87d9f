-- Who asks for what is followed, entered, or a fault: all of it.
use Rattle.wesl_link_flaws.specs.declared.absence.Absence.{Absence}
use Rattle.wesl_link_flaws.proofs.Asking.{asked_of, asker_of, bringer, entered_back, followed_of, stands_of}
use Rattle.wesl_link_faults.specs.Laws.{HaveAskers}

pub have_askers : {P N E : Type 0} (absent : P → Absence E → Type 0) → HaveAskers N absent
have_askers absent = record {
  followed = λ task w l. ((λ f. asker_of task w l f), (λ h. followed_of task w h.0 l h.1));
  entered = λ task w p. ((λ h. bringer task w p h), (λ h. entered_back task w p h));
  stands = λ task w limit root fault at roomy some.
      ((λ h. asked_of task w absent limit root at roomy some fault h), (λ h. stands_of task w absent limit fault h.0 h.1 h.2));
}
