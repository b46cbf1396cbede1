use Rattle.std.proofs.Common.{◌≡◌, ◌∙◌, ap, sym, subst, slice_index}
use Rattle.bufr_frame.specs.Prelude.{IsFitting, is_writable}
use Rattle.bufr_frame.proofs.AgainLemmas.{fitting-writable}
use Rattle.bufr_text.specs.Prelude.{header_in, Document}
use Rattle.bufr_text.proofs.HeaderLemmas.{headed-fits}
use Rattle.bufr_text.proofs.document.Document.head.Goals as goal

pub returns-clause-writable : goal.returns-clause-writable
returns-clause-writable c =
    let d : Document = c.args.self.now in
    let parts : Document = c.self.inside.parts in
    let same : d ≡ parts = sym c.self.view_is in
    let centre : c.value.result ≡ slice_index d.header 2 = c.value.ensures ∙ ap (λ (x : Document). slice_index x.header 2) (sym same) in
    let subcentre : c.value-2.result ≡ slice_index d.header 3 = c.value-2.ensures ∙ ap (λ (x : Document). slice_index x.header 3) (sym same) in
    let year : c.value-3.result ≡ slice_index d.header 10 = c.value-3.ensures ∙ ap (λ (x : Document). slice_index x.header 10) (sym same) in
    let fits : IsFitting (header_in d).head = subst (λ (x : Document). IsFitting (header_in x).head) (sym same) (headed-fits parts c.self.invariant.proper.headed) in
    (λ j. is_writable (record {
      edition = c.octet.ensures j;
      master = c.octet-2.ensures j;
      centre = centre j;
      subcentre = subcentre j;
      update = c.octet-3.ensures j;
      category = c.octet-4.ensures j;
      subcategory = c.octet-5.ensures j;
      local_subcategory = c.octet-6.ensures j;
      master_version = c.octet-7.ensures j;
      local_version = c.octet-8.ensures j;
      year = year j;
      month = c.octet-9.ensures j;
      day = c.octet-10.ensures j;
      hour = c.octet-11.ensures j;
      minute = c.octet-12.ensures j;
      second = c.octet-13.ensures j;
    })) ∙ fitting-writable (header_in d).head fits
