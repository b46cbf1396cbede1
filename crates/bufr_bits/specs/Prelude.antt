-- Re-exports the names that proofs and other crates use, and declares nothing itself.
pub use Rattle.bufr_bits.specs.BitSlice.{octets_of}
pub use Rattle.bufr_bits.specs.Bits.{bits_of_octet, number_after_bits, number_of, bits_at, are_all_ones, padding, room_after, IsWindow, BitWriterModel}
unfoldable pub use Rattle.bufr_bits.specs.Bits.{bits_of, bits_in}
pub use Rattle.bufr_bits.specs.Device.{Flushes, capped, capped_ok, counted, empty_writes_after, failures_after, flushes_after, whole_writes_after}
pub use Rattle.bufr_bits.specs.Decimal.{all_digits, whole_quotient, pointed, positive_scale, negative_scale, signed, ◌>>=◌, map_err, unsigned_part, signed_number, is_decimal_octet, continues_number, searched_octets, IsPlainDecimal, scaled, IsParts, is_unsigned, is_digits, whole_part, fraction_part, sign_of, short_text}
unfoldable pub use Rattle.bufr_bits.specs.Decimal.{decimal_text_of, unsigned_text, decimal_value_of}
pub use Rattle.bufr_bits.specs.Script.{taken_of}
