mod LedLaws
