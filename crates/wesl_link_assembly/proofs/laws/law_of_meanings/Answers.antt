use Rattle.wesl_link_assembly.specs.Denotations.{free_name}
use Rattle.wesl_link_assembly.proofs.Retold.{linked_again}
use Rattle.wesl_link_assembly.proofs.laws.law_of_meanings.Goals as goal

pub returns : goal.returns
returns c = λ f print reprint nodes others ds unit same itself apart shapes s. linked_again f print reprint free_name nodes others ds unit same itself apart shapes s
