use Rattle.std.proofs.Common.{rules}
use Rattle.bufr_text.proofs.PushLemmas.{◌⨾◌, retold}
use Rattle.bufr_text.proofs.dump.push_any_form.Goals as goal

pub returns-in-Number : goal.returns-in-Number
returns-in-Number g c = rw c.in-Number.is (retold (c.push_descriptor.ensures ⨾ c.push_scaled.ensures) (search rules))

pub returns-in-Text : goal.returns-in-Text
returns-in-Text g c = rw c.in-Text.is (retold (c.push_descriptor-in-Text.ensures ⨾ (c.push.ensures ⨾ c.push_quoted.ensures)) (search rules))

pub returns-in-Missing : goal.returns-in-Missing
returns-in-Missing g c = rw c.in-Missing.is (retold (c.push_descriptor-in-Missing.ensures ⨾ c.push-in-Missing.ensures) (search rules))

pub returns-in-Reference : goal.returns-in-Reference
returns-in-Reference g c = rw c.in-Reference.is (retold (c.push-in-Reference.ensures ⨾ (c.push_descriptor-in-Reference.ensures ⨾ c.push_scaled-in-Reference.ensures)) (search rules))
