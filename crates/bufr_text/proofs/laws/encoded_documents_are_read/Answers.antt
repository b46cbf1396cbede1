use Rattle.std.proofs.Common.{◌∙◌}
use Rattle.bufr_text.proofs.NormalLemmas.{encoded_read, dump_is_normal, normal_again, one_document_again, encoded_again_same}
use Rattle.bufr_text.proofs.laws.encoded_documents_are_read.Goals as goal

pub returns : goal.returns
returns c = λ form records table sequences d octets rows proper. (
  encoded_read form records table sequences rows d proper octets,
  λ read.
      let dumps = dump_is_normal form records table sequences rows d octets read proper in (
        dumps,
        normal_again form records table sequences rows d octets read 1 ∙ dumps,
        one_document_again form records table sequences rows d octets read proper,
        encoded_again_same form records table sequences rows d octets read 1 proper,
      ),
)
