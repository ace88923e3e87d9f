use Rattle.wesl_text_sink.proofs.LayoutRead as layout
use Rattle.wesl_text_sink.proofs.laws.law_of_layout.Goals as goal

pub returns : goal.returns
returns c = record { layout_is_read = layout.layout_is_read; read_is_meant = layout.read_is_meant; misread_is_not_meant = layout.misread_is_not_meant }
