use Rattle.std.proofs.Common.{◌≡◌, ◌+◌, ◌*◌, ◌/◌, ◌≤◌, ◌∙◌, ◌++◌, [], Err, length, get_or, refl, sym, subst, arith, ap}
use Rattle.std.proofs.lemmas.List.{append-nil}
use Rattle.bufr_bits.specs.Prelude.{bits_in}
use Rattle.bufr_walk.specs.Prelude.{bits_for, max_values}
use Rattle.bufr_fill.specs.declared.field_value.FieldContent.TheVariants as field_content
use Rattle.bufr_fill.specs.Prelude.{item_row, packed_bits, packed_over, packed_unlike, subsets_of, at_line, padded_content, padded_contents, IsPutWithin}
use Rattle.bufr_fill.specs.declared.fault.ItemFault.TheVariants as wrong
use Rattle.bufr_fill.proofs.LeastLemmas.{parts_put, parts_length, texts_apart}
use Rattle.bufr_fill.proofs.RowLemmas.{no_reference, most_some, apart_by, packed_alike, packed_apart, put_packed, put_unequal, put_uneven, put_within}
use Rattle.bufr_fill.proofs.EntryLemmas.{count_cells}
use Rattle.bufr_fill.proofs.packed_out.pack_row.Goals as goal
use Rattle.bufr_fill.proofs.packed_out.pack_row.Goals.{then-is_text+else-k-gt63+in_ok-pack_texts-in-Element, else-is_text+in_ok-pack_numbers-in-Element}

pub returns-then-are_alike-clause-put : goal.returns-then-are_alike-clause-put
returns-then-are_alike-clause-put c =
    let row = c.args.row in
    let spec = c.args.spec.now in
    let values = subst (λ n. (row.index + 1) * n ≤ max_values) (sym (count_cells row.index row.entries.now row.ends.now c.args.row.ends_are)) c.requires.values in
    let first = padded_content (spec.width / 8) (get_or c.args.contents.now 0 (field_content.Number 0)) in
    let put = parts_put c.args.out.now.bits c.put_content.new.out.bits c.put.new.self.bits c.put.new.self.bits (bits_for spec.width first) (bits_in 0 6) []
    (c.put_content.ensures.bits ∙ ap (λ bits. bits ++ bits_for spec.width first) c.in_ok-reserve.ensures.bits) c.put.ensures.bits (sym (append-nil c.put.new.self.bits)) in
    let len : length c.put.new.self.bits ≡ length c.args.out.now.bits + spec.width + 6 = omega (arith, ap length c.in_ok-reserve.ensures.bits, c.put_content.ensures.len, c.put.ensures.len) in
    put_within spec row.index (subsets_of row.entries.now) c.args.contents.now (field_content.Number 0) c.taken_of.result c.args.out.now.bits c.put.new.self.bits
    (packed_bits (bits_for spec.width first) 0 []) (2046 + 504 * length row.ends.now) values c.requires.given
    (omega (arith, c.requires.many, c.args.row.some)) c.taken_of.ensures.gives
    (packed_alike spec (spec.width / 8) c.args.contents.now (field_content.Number 0) (omega (arith, c.requires.many, c.args.row.some)) (sym c.are_alike.ensures ∙ c.if-are_alike.true))
    put (parts_length c.args.out.now.bits c.put.new.self.bits _ _ put (omega (arith, len, c.width.ensures.most))) (omega (arith, len))

pub returns-in-Factor-clause-put : goal.returns-in-Factor-clause-put
returns-in-Factor-clause-put c =
    let row = c.args.row in
    let spec = c.args.spec.now in
    let values = subst (λ n. (row.index + 1) * n ≤ max_values) (sym (count_cells row.index row.entries.now row.ends.now c.args.row.ends_are)) c.requires.values in
    let cs = padded_contents (spec.width / 8) c.args.contents.now in
    let apart = packed_apart spec (spec.width / 8) c.args.contents.now (field_content.Number 0) (omega (arith, c.requires.many, c.args.row.some)) (sym c.are_alike.ensures ∙ c.if-are_alike.false) in (
      put_unequal spec row.index (subsets_of row.entries.now) values cs c.requires.given (apart ∙ ap (λ r. packed_unlike r spec cs) (sym c.role.ensures ∙ c.in-Factor.is))
          ∙ ap (λ n. Err (at_line n wrong.UnequalFactor)) (sym c.unlike_line-line.ensures),
      refl,
    )

pub returns-in-Reference-clause-put : goal.returns-in-Reference-clause-put
returns-in-Reference-clause-put c =
    let row = c.args.row in
    let spec = c.args.spec.now in
    let values = subst (λ n. (row.index + 1) * n ≤ max_values) (sym (count_cells row.index row.entries.now row.ends.now c.args.row.ends_are)) c.requires.values in
    let cs = padded_contents (spec.width / 8) c.args.contents.now in
    let apart = packed_apart spec (spec.width / 8) c.args.contents.now (field_content.Number 0) (omega (arith, c.requires.many, c.args.row.some)) (sym c.are_alike.ensures ∙ c.if-are_alike.false) in (
      put_uneven spec row.index (subsets_of row.entries.now) values cs c.requires.given (apart ∙ ap (λ r. packed_unlike r spec cs) (sym c.role.ensures ∙ c.in-Reference.is))
          ∙ ap (λ n. Err (at_line n wrong.Increment)) (sym c.first_line.ensures),
      refl,
    )

pub returns-then-k-gt63-clause-put : goal.returns-then-k-gt63-clause-put
returns-then-k-gt63-clause-put c =
    let row = c.args.row in
    let spec = c.args.spec.now in
    let values = subst (λ n. (row.index + 1) * n ≤ max_values) (sym (count_cells row.index row.entries.now row.ends.now c.args.row.ends_are)) c.requires.values in
    let cs = padded_contents (spec.width / 8) c.args.contents.now in
    let apart = packed_apart spec (spec.width / 8) c.args.contents.now (field_content.Number 0) (omega (arith, c.requires.many, c.args.row.some)) (sym c.are_alike.ensures ∙ c.if-are_alike.false) in
    let by : packed_unlike spec.role spec cs ≡ packed_over spec cs = apart_by spec cs c.role.result c.role.ensures c.in-Element.is in (
      put_uneven spec row.index (subsets_of row.entries.now) values cs c.requires.given
          (apart ∙ by ∙ texts_apart spec c.args.contents.now c.octets_needed-k.result (sym c.is_text.ensures ∙ c.if-is_text.true)
          (no_reference spec c.role.result c.role.ensures c.in-Element.is) (most_some c.args.contents.now) c.requires.all c.octets_needed-k.ensures c.if-k-gt63.true)
          ∙ ap (λ n. Err (at_line n wrong.Increment)) (sym c.first_line-then-k-gt63.ensures),
      refl,
    )

pub returns-after-is_text-clause-put : goal.returns-after-is_text-clause-put
returns-after-is_text-clause-put c =
    let row = c.args.row in
    let spec = c.args.spec.now in
    let most = 2046 + 504 * length row.ends.now in
    let values = subst (λ n. (row.index + 1) * n ≤ max_values) (sym (count_cells row.index row.entries.now row.ends.now c.args.row.ends_are)) c.requires.values in
    let cs = padded_contents (spec.width / 8) c.args.contents.now in
    let apart = packed_apart spec (spec.width / 8) c.args.contents.now (field_content.Number 0) (omega (arith, c.requires.many, c.args.row.some)) (sym c.are_alike.ensures ∙ c.if-are_alike.false) in
    let by : packed_unlike spec.role spec cs ≡ packed_over spec cs = apart_by spec cs c.role.result c.role.ensures c.in-Element.is in
    let put = put_packed spec row.index (subsets_of row.entries.now) c.args.contents.now (field_content.Number 0) c.taken_of-in-Element.result c.args.out.now.bits in
    elim c.if-is_text.branch [
      | then-is_text+else-k-gt63+in_ok-pack_texts-in-Element w ↦
          subst (λ bits. IsPutWithin c.args.out.now.bits bits spec (item_row row.index (subsets_of row.entries.now)) most c.taken_of-in-Element.result) (ap (λ o. o.bits) (sym w.out-is))
          (put w.pack_texts.new.out.bits (2046 + 504 * length c.args.contents.now) most values c.requires.given (omega (arith, c.requires.many, c.args.row.some)) c.taken_of-in-Element.ensures.gives
          (apart ∙ by) (omega (arith, c.requires.many)) w.in_ok-pack_texts-in-Element.ensures)
      | else-is_text+in_ok-pack_numbers-in-Element w ↦
          subst (λ bits. IsPutWithin c.args.out.now.bits bits spec (item_row row.index (subsets_of row.entries.now)) most c.taken_of-in-Element.result) (ap (λ o. o.bits) (sym w.out-is))
          (put w.pack_numbers.new.out.bits (69 + 63 * length c.args.contents.now) most values c.requires.given (omega (arith, c.requires.many, c.args.row.some)) c.taken_of-in-Element.ensures.gives
          (apart ∙ by) (omega (arith, c.requires.many)) w.in_ok-pack_numbers-in-Element.ensures)
    ]
