-- The numbers of documents 01 and 02, each worked out of the span's one definition at the two rates. Assumes nothing.
use mathlib.Core.Path.{◌≡◌, refl}
use Rattle.shaping.specs.Rate.{at48, at24, rate_of, per_second, tap_count, ring_places, store_places_lem, delay_step_lem, padding_limit_lem, end_limit_lem, wish_room_lem}

pub numbers_48 : (rate_of 48000 ≡ at48) × (per_second 10 ≡ 48000) × (tap_count 10 ≡ 81) × (ring_places 10 ≡ 1920) × (store_places_lem 10 ≡ 4000) × (delay_step_lem 10 ≡ 480) × (padding_limit_lem 10 ≡ 122400) × (end_limit_lem 10 ≡ 33680832) × (wish_room_lem 10 ≡ 2000)
numbers_48 = (refl, refl, refl, refl, refl, refl, refl, refl, refl)

pub numbers_24 : (rate_of 24000 ≡ at24) × (per_second 5 ≡ 24000) × (tap_count 5 ≡ 41) × (ring_places 5 ≡ 960) × (store_places_lem 5 ≡ 2000) × (delay_step_lem 5 ≡ 240) × (padding_limit_lem 5 ≡ 61200) × (end_limit_lem 5 ≡ 33617632) × (wish_room_lem 5 ≡ 1000)
numbers_24 = (refl, refl, refl, refl, refl, refl, refl, refl, refl)
